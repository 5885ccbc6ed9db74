-- A text and working cells handed over together (01, "Turned back for the study's condition": "the text's refusals come before 24").
-- Assumes nothing.
use Rattle.std.specs.Prelude.{◌≡◌, List, cond, ℕ, ℤ, length, Result, Ok, Err, is_ok}
use Rattle.figures.specs.Refusal.{check_number, Check}
use Rattle.figures.specs.declared.Refusal.{Refusal}
use Rattle.figures.specs.declared.Periods.{Periods}
use Rattle.request.specs.declared.PeriodResult.{PeriodResult}
use Rattle.study.specs.Plan.{Plan}
use Rattle.study.specs.Add.{ours}
use Rattle.request.specs.Levels.{own_marks, MarksAllowed}
use Rattle.request.specs.Request.{levels_check, levels_number, answer_by, cells_by}
use Rattle.text.specs.declared.Fault.{Fault}
use Rattle.text.specs.Text.{Reading, accepted_with, refused_at, read_text}

-- ---- what is answered by line: a value, or a refusal with the line at fault, 0 where none is

-- the reading that it is: "a refused text gives the empty study"
unfoldable pub reading_of : Result Plan Fault → Reading
reading_of (Ok st) = accepted_with st
reading_of (Err f) = refused_at f.refusal f.line

-- its check, and its line
unfoldable pub check_at : {A : Type 0} → Result A Fault → Check
check_at (Ok _) = Ok tt
check_at (Err f) = Err f.refusal

unfoldable pub line_at : {A : Type 0} → Result A Fault → ℕ
line_at (Ok _) = 0
line_at (Err f) = f.line

-- a refusal at a line
abbrev pub refused_line : {A : Type 0} → Refusal → ℕ → Result A Fault
refused_line why line = Err (record { refusal = why; line = line })

-- an answer with the line of the text that it concerns
abbrev pub at_line : {A : Type 0} → ℕ → Result A Refusal → Result A Fault
at_line line (Ok value) = Ok value
at_line line (Err why) = refused_line why line

-- ---- the answer

-- both periods' results, or a refusal with its line
abbrev pub TextAnswer : Type 0
TextAnswer = Result (Periods PeriodResult) Fault

-- so much of a reading with so many cells: a refused text's refusal and line, else the request over its study. An accepted text's line is 0
unfoldable pub answer_with : Check → ℕ → Plan → ℕ → TextAnswer
answer_with (Ok _) line plan cells = at_line line (answer_by (levels_check plan cells) plan (own_marks plan))
answer_with (Err why) line plan cells = refused_line why line

-- a refused text leaves the cells as they were, else the request over its study
unfoldable pub cells_with : Check → Plan → List ℤ → List ℤ
cells_with (Ok _) plan cells = cells_by (levels_check plan (length cells)) plan (own_marks plan) cells
cells_with (Err why) plan cells = cells

-- the plan of the study that is read from a text: the empty one where it is refused
abbrev pub plan_in : List ℕ → Plan
plan_in text = (read_text ours text).study

unfoldable pub text_answer : List ℕ → ℕ → TextAnswer
text_answer text cells = let r = read_text ours text in answer_with r.check r.line r.study cells

-- 01's number of a reading, and of a text with so many cells: the text's own come first
unfoldable pub text_number : List ℕ → ℕ
text_number text = check_number (read_text ours text).check

unfoldable pub text_answer_number : List ℕ → ℕ → ℕ
text_answer_number text cells = cond (is_ok (read_text ours text).check) (levels_number (plan_in text) cells) (text_number text)

-- the whole of it: by the program's own marks, and 01 allows these
pub record TextAnswered (text : List ℕ) (before after : List ℤ) (r : TextAnswer) : Type 0 where
  pub answer : r ≡ text_answer text (length before)
  pub cells : after ≡ cells_with (read_text ours text).check (plan_in text) before
  pub allowed : MarksAllowed (plan_in text) (own_marks (plan_in text))
