-- What a text is answered with where the cells are enough for every study: told by the text alone, and its levels in the cells.
-- Assumes nothing.
use mathlib.Core.Path.{◌≡◌, refl, sym, ap, ◌∙◌}
use mathlib.Core.Bool.{false≢true}
use mathlib.Core.List.{List}
use Prim.Native.Nat.{ℕ}
use native.Mathlib.Omega.{arith}
use lib.IntN.{ℤ}
use lib.ListN.{length, take, drop}
use Rattle.figures.specs.declared.Period.{Period}
use Rattle.figures.specs.declared.Period.TheVariants.{Day, Night}
use Rattle.figures.specs.declared.Periods.{Periods}
use Rattle.request.specs.declared.PeriodResult.{PeriodResult}
use Rattle.study.specs.Add.{ours}
use Rattle.request.specs.Levels.{own_marks, result_by}
use Rattle.request.specs.Request.{cells_needed, levels_check, first_cell, answer_of, answer_by}
use Rattle.request.proofs.Cells.{cells_of}
use Rattle.request.proofs.Demand3.{request_answered}
use Rattle.request.proofs.Laid.{period_laid}
use Rattle.text.specs.Text.{read_text}
use Rattle.text.specs.Answer.{TextAnswer, check_at, line_at, at_line, answer_with, cells_with, plan_in, text_answer, TextAnswered}
use Rattle.text.proofs.Counted.{accepted_text_entry}
use Rattle.text.proofs.Runs.{text_held, accepted_line}
use Rattle.figures.specs.Refusal.{Check, answered}
use Rattle.std.specs.Prelude.{Result, Ok, Err, is_ok, MatchResult}
use Rattle.text.specs.declared.TextFault.{TextFault}
use Rattle.text.specs.Private.{TextRefused}

module _ (text : List ℕ) {before after : List ℤ} {a : TextAnswer} (q : TextAnswered text before after a) (room : length before ≡ cells_needed ours.entries) where
  enough : (read_text ours text).check ≡ Ok tt → levels_check (plan_in text) (length before) ≡ Ok tt
  enough ok = request_answered (plan_in text) (length before) (accepted_text_entry ours text ok) (omega (arith, (text_held ours text).total))

  pub answer_is : (read_text ours text).check ≡ Ok tt → a ≡ at_line (read_text ours text).line (answer_by (Ok tt) (plan_in text) (own_marks (plan_in text)))
  unfolding text_answer answer_with
  answer_is ok = q.answer ∙ rw (ok, enough ok) refl

  pub told : (c : Check) → (read_text ours text).check ≡ c → check_at a ≡ c
  unfolding text_answer answer_with answer_of answered check_at
  told (Ok _) ok = ap check_at (answer_is ok)
  told (Err why) h = ap check_at q.answer ∙ rw h refl

  -- a period's levels, of as many entries as the text has
  pub period_cells : (p : Period) {n : ℕ} → (read_text ours text).check ≡ Ok tt → n ≡ length (plan_in text).entries → take n (drop (first_cell p n) after) ≡ cells_of p (plan_in text)
  unfolding cells_with
  period_cells p ok size = period_laid p (plan_in text) before (enough ok) (q.cells ∙ rw ok refl) size

  -- an answered text is accepted, and answered by its plan
  module _ {both : Periods PeriodResult} (e : a ≡ Ok both) where
    pub accepted_by : (read_text ours text).check ≡ Ok tt
    unfolding check_at
    accepted_by = sym (told (read_text ours text).check refl) ∙ ap check_at e

    pub results_are : let plan = plan_in text in both ≡ record { day = result_by Day plan (own_marks plan); night = result_by Night plan (own_marks plan) }
    unfolding answer_of answered
    results_are = ap either (sym e ∙ answer_is accepted_by)
      where
        either : TextAnswer → Periods PeriodResult
        either (Ok r) = r
        either (Err f) = both

  -- the line told is the reading's
  line_is : (c : Check) → (read_text ours text).check ≡ c → line_at a ≡ (read_text ours text).line
  unfolding text_answer answer_with answer_of answered line_at
  line_is (Ok _) ok = ap line_at (answer_is ok) ∙ sym (accepted_line ours text ok)
  line_is (Err why) e = ap line_at q.answer ∙ rw e refl

  -- what `map_err` gives of one of several texts
  module _ (number : ℕ) {r : Result (Periods PeriodResult) TextFault} (m : MatchResult a (λ b. r ≡ Ok b) (λ f. r ≡ Err (record { text = number; fault = f }))) where
    pub text_refused : {g : TextFault} → r ≡ Err g → TextRefused number text g
    unfolding check_at line_at
    text_refused {g} e = go a refl m
      where
        fault_of : Result (Periods PeriodResult) TextFault → TextFault
        fault_of (Ok b) = g
        fault_of (Err f) = f

        go : (x : TextAnswer) → a ≡ x → MatchResult x (λ b. r ≡ Ok b) (λ f. r ≡ Err (record { text = number; fault = f })) → TextRefused number text g
        go (Ok b) is same = absurd (false≢true (ap is_ok (sym e ∙ same)))
        go (Err f) is same =
            let c = (read_text ours text).check in
            rw (ap fault_of (sym e ∙ same)) (record { check = sym (told c refl) ∙ ap check_at is; told = refl; line = sym (ap line_at is) ∙ line_is c refl })

    pub text_answered : {both : Periods PeriodResult} → r ≡ Ok both → a ≡ Ok both
    text_answered {both} e = go a refl m
      where
        results_of : Result (Periods PeriodResult) TextFault → Periods PeriodResult
        results_of (Ok b) = b
        results_of (Err f) = both

        go : (x : TextAnswer) → a ≡ x → MatchResult x (λ b. r ≡ Ok b) (λ f. r ≡ Err (record { text = number; fault = f })) → a ≡ Ok both
        go (Ok b) is same = is ∙ ap Ok (ap results_of (sym same ∙ e))
        go (Err f) is same = absurd (false≢true (ap is_ok (sym same ∙ e)))
