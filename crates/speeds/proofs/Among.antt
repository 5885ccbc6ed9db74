-- The answer from up to 96 cells: each way out of the code, and the marks that 01 allows.
-- Assumes nothing.
use mathlib.Core.Path.{◌≡◌, refl, sym, ap, ◌∙◌}
use mathlib.Core.List.{List}
use Prim.Native.Nat.{ℕ, ◌-◌, ◌≤◌}
use native.Mathlib.Omega.{arith}
use lib.IntN.{ℤ}
use lib.ListN.{length, set, length-set}
use Rattle.energy.specs.Total.{heard, TotalMark}
use Rattle.energy.specs.Mark.{total_mark}
use Rattle.energy.proofs.Cells.{heard-kept, heard_few}
use Rattle.energy.proofs.Named.{total_allowed}
use Rattle.figures.specs.declared.Train.{Train}
use Rattle.figures.specs.declared.Period.{Period}
use Rattle.figures.specs.declared.Refusal.TheVariants.{EntryNumber, NoSpeed}
use Rattle.figures.specs.Refusal.{check_number, check_of, answered}
use Rattle.study.specs.Add.{ours}
use Rattle.request.specs.Request.{cell_in}
use Rattle.speeds.specs.Speeds.{at_speed, levels_with, SpeedAnswer, speed_number, highest_from, SpeedAnsweredFrom}
use Rattle.speeds.specs.Private.{speed_found}
use Rattle.speeds.proofs.Checks.{outside, inside, answer_number}
use Rattle.std.specs.Prelude.{Option, ok_or, Err}

module _ (cells : List ℤ) (entry : ℕ) (tenths : ℤ) (t : Train) (p : Period) (limit : ℤ) (few : length cells ≤ ours.entries) where
  allowed : (v : ℕ) → TotalMark (levels_with p cells (entry - 1) tenths t v) (total_mark (levels_with p cells (entry - 1) tenths t v))
  allowed v =
      let changed = set cells (entry - 1) (cell_in p tenths (at_speed v t)) in
      total_allowed (heard changed) (omega (arith, heard_few changed, length-set cells (entry - 1) (cell_in p tenths (at_speed v t)))) (heard-kept changed)

  -- a number that is of no entry, whatever was found
  pub outside_refused : ((1 ≤ entry) × (entry ≤ length cells) → ⊥) → SpeedAnsweredFrom cells entry tenths t p limit (Err EntryNumber)
  unfolding answered
  outside_refused out = record { answer = rw (outside entry (length cells) (highest_from cells entry tenths t p limit) out) refl; allowed = allowed }

  -- what the search has found
  pub search_answered : 1 ≤ entry → entry ≤ length cells → {o : Option ℕ} {r : SpeedAnswer} → o ≡ speed_found (highest_from cells entry tenths t p limit) → r ≡ ok_or o NoSpeed → SpeedAnsweredFrom cells entry tenths t p limit r
  search_answered some within found e =
      record { answer = e ∙ ap (λ (o : Option ℕ). ok_or o NoSpeed) found ∙ sym (inside entry (length cells) (highest_from cells entry tenths t p limit) some within); allowed = allowed }

-- an answer's number
pub answered_number : {cells : List ℤ} {entry : ℕ} {tenths : ℤ} {t : Train} {p : Period} {limit : ℤ} {r : SpeedAnswer} → SpeedAnsweredFrom cells entry tenths t p limit r
    → check_number (check_of r) ≡ speed_number entry (length cells) (highest_from cells entry tenths t p limit)
answered_number {cells} {entry} a = answer_number entry (length cells) _ a.answer
