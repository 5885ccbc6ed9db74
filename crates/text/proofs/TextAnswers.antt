-- From a text to its levels: a text's refusal leaves the cells, and the study of an accepted one is asked for its levels.
-- Assumes nothing.
use mathlib.Core.Path.{◌≡◌, refl, sym, ap, ◌∙◌, subst}
use mathlib.Core.List.{List}
use mathlib.Core.Bool.{cond}
use Prim.Native.Nat.{ℕ, zero-le}
use lib.IntN.{ℤ}
use lib.ListN.{length}
use Rattle.figures.specs.declared.Refusal.{Refusal}
use Rattle.figures.specs.declared.Period.TheVariants.{Day, Night}
use Rattle.text.specs.declared.Fault.{Fault}
use Rattle.figures.specs.Refusal.{check_number, check_of, Check}
use Rattle.study.specs.Plan.{Plan, empty_plan}
use Rattle.study.specs.Add.{ours}
use Rattle.request.specs.Levels.{result_by, own_marks, MarksAllowed}
use Rattle.request.specs.Request.{Answer, Answered, answer_of, levels_check, levels_number}
use Rattle.request.proofs.Answers.{plan_number}
use Rattle.request.proofs.Results.{own_allowed}
use Rattle.text.specs.Text.{Reading, read_text, refused_at, accepted_with}
use Rattle.text.specs.Answer.{TextAnswer, reading_of, check_at, refused_line, at_line, answer_with, cells_with, text_answer, text_number, text_answer_number, TextAnswered}
use Rattle.text.specs.Private.{Answers}
use Rattle.std.specs.Prelude.{Result, Ok, Err, is_ok, MatchResult}

empty_allowed : MarksAllowed empty_plan (own_marks empty_plan)
empty_allowed = own_allowed empty_plan zero-le

-- a refusal leaves the cells as they were
pub refused_answers : {reading : Reading} {f : Refusal} {line : ℕ} {before after : List ℤ} → after ≡ before → reading ≡ refused_at f line → Answers reading before after (refused_line f line)
unfolding answer_with cells_with
refused_answers same e = rw e (record { answer = refl; cells = same; allowed = empty_allowed })

-- an accepted reading's plan is asked for its levels
pub accepted_answers : {reading : Reading} {st : Plan} {before after : List ℤ} {a : Answer} → reading ≡ accepted_with st → Answered st before after a → Answers reading before after (at_line 0 a)
unfolding answer_with cells_with
accepted_answers e w = rw e (record { answer = ap (at_line 0) w.by.answer; cells = w.by.cells; allowed = w.allowed })

-- an answer with its line, as `map_err` gives it
pub line_mapped : (a : Answer) {r : TextAnswer} → MatchResult a (λ b. r ≡ Ok b) (λ f. r ≡ refused_line f 0) → r ≡ at_line 0 a
line_mapped (Ok b) e = e
line_mapped (Err f) e = e

-- the whole text's
pub text_answered : (text : List ℕ) {reading : Reading} {before after : List ℤ} {r : TextAnswer} → read_text ours text ≡ reading → Answers reading before after r → TextAnswered text before after r
unfolding text_answer
text_answered text {before = before} {after = after} {r = r} e q =
    let a : Answers (read_text ours text) before after r = subst (λ (x : Reading). Answers x before after r) (sym e) q in
    record { answer = a.answer; cells = a.cells; allowed = a.allowed }

-- ---- 01's numbers

pub reading_check : (r : Result Plan Fault) → check_at r ≡ (reading_of r).check
unfolding check_at reading_of
reading_check (Ok st) = refl
reading_check (Err f) = refl

pub text_numbered : (text : List ℕ) (r : Result Plan Fault) → reading_of r ≡ read_text ours text → check_number (check_at r) ≡ text_number text
unfolding text_number
text_numbered text r e = ap check_number (reading_check r ∙ ap (λ (x : Reading). x.check) e)

answer_numbered : (c : Check) (line : ℕ) (plan : Plan) (n : ℕ) → check_number (check_at (answer_with c line plan n)) ≡ cond (is_ok c) (levels_number plan n) (check_number c)
unfolding answer_with check_at check_of
answer_numbered (Ok _) line plan n = ap check_number (at_any (answer_of (levels_check plan n) (result_by Day plan (own_marks plan)) (result_by Night plan (own_marks plan)))) ∙ plan_number plan n _ _
  where
    at_any : (a : Answer) → check_at (at_line line a) ≡ check_of a
    at_any (Ok b) = refl
    at_any (Err f) = refl
answer_numbered (Err f) line plan n = refl

pub answer_number : (text : List ℕ) {before after : List ℤ} {r : TextAnswer} → TextAnswered text before after r → check_number (check_at r) ≡ text_answer_number text (length before)
unfolding text_answer text_answer_number text_number
answer_number text {before = before} a =
    let x = read_text ours text in
    ap (λ (r : TextAnswer). check_number (check_at r)) a.answer ∙ answer_numbered x.check x.line x.study (length before)
