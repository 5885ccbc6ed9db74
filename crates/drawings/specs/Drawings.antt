-- Two texts and working cells handed over together (02, L5): the first text's refusals, then the second's, then those of the merge, then the request's.
-- Assumes nothing.
use Rattle.std.specs.Prelude.{◌≡◌, List, ℕ, ℤ, length, Result, Ok, Err}
use Rattle.figures.specs.declared.Refusal.{Refusal}
use Rattle.figures.specs.declared.Periods.{Periods}
use Rattle.figures.specs.Refusal.{check_number, first_refused, Check}
use Rattle.study.specs.Plan.{Plan}
use Rattle.study.specs.Add.{Added, ours}
use Rattle.request.specs.declared.PeriodResult.{PeriodResult}
use Rattle.request.specs.Levels.{own_marks, MarksAllowed}
use Rattle.request.specs.Request.{Answer, levels_check, answer_by}
use Rattle.text.specs.Text.{read_text}
use Rattle.text.specs.Answer.{TextAnswer, check_at, line_at, cells_with}
use Rattle.text.specs.declared.TextFault.{TextFault}
use Rattle.merging.specs.Merge.{merged}

-- the merge of both texts' studies, and what its study holds; where a text is refused, neither is looked at
abbrev pub merged_of : List ℕ → List ℕ → Added
merged_of first second = merged ours (read_text ours first).study (read_text ours second).study

abbrev pub merged_plan_in : List ℕ → List ℕ → Plan
merged_plan_in first second = (merged_of first second).study

-- ---- the answer

-- both periods' results, or a refusal with the text at fault and its line
abbrev pub MergedAnswer : Type 0
MergedAnswer = Result (Periods PeriodResult) TextFault

-- a refusal with the text that is at fault, 1 or 2, and its line; both 0 where none is
abbrev pub refused_told : ℕ → ℕ → Refusal → MergedAnswer
refused_told text line why = Err (record { text = text; fault = record { refusal = why; line = line } })

-- an answer with the text and the line that its refusal tells
abbrev pub told_at : ℕ → ℕ → Answer → MergedAnswer
told_at text line (Ok both) = Ok both
told_at text line (Err why) = refused_told text line why

-- the text that is told, 0 without a refusal; and the answer without it, as one text gives it
unfoldable pub text_told : MergedAnswer → ℕ
text_told (Ok both) = 0
text_told (Err f) = f.text

unfoldable pub answer_told : MergedAnswer → TextAnswer
answer_told (Ok both) = Ok both
answer_told (Err f) = Err f.fault

abbrev pub check_told : MergedAnswer → Check
check_told r = check_at (answer_told r)

abbrev pub line_told : MergedAnswer → ℕ
line_told r = line_at (answer_told r)

-- a refusal ends the request; else what comes after it
abbrev pub told_unless : Check → ℕ → ℕ → MergedAnswer → MergedAnswer
told_unless (Ok _) text line rest = rest
told_unless (Err why) text line rest = refused_told text line why

unfoldable pub merged_answer : List ℕ → List ℕ → ℕ → MergedAnswer
merged_answer first second cells =
    let one = read_text ours first in
    let two = read_text ours second in
    let plan = merged_plan_in first second in
    told_unless one.check 1 one.line
    (told_unless two.check 2 two.line
    (told_unless (merged_of first second).check 0 0
    (told_at 0 0 (answer_by (levels_check plan cells) plan (own_marks plan)))))

-- the first refusal before the request for levels
unfoldable pub texts_check : List ℕ → List ℕ → Check
texts_check first second = first_refused (read_text ours first).check (first_refused (read_text ours second).check (merged_of first second).check)

-- the number of the whole answer: the first refusal of all
unfoldable pub merged_answer_number : List ℕ → List ℕ → ℕ → ℕ
merged_answer_number first second cells = check_number (first_refused (texts_check first second) (levels_check (merged_plan_in first second) cells))

-- the whole of it: by the program's own marks, and 01 allows these
pub record MergedAnswered (first second : List ℕ) (before after : List ℤ) (r : MergedAnswer) : Type 0 where
  pub answer : r ≡ merged_answer first second (length before)
  pub cells : after ≡ cells_with (texts_check first second) (merged_plan_in first second) before
  pub allowed : MarksAllowed (merged_plan_in first second) (own_marks (merged_plan_in first second))
