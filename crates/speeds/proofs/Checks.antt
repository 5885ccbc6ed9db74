-- Which refusal a request for the highest speed gets, and its number.
-- Assumes nothing.
use mathlib.Core.Path.{◌≡◌, refl, ap, ◌∙◌}
use mathlib.Core.Bool.{and-false}
use Prim.Native.Nat.{ℕ, zero, suc, ◌≤◌, ◌<◌}
use native.Mathlib.Nat.{lt_of_not-le}
use native.Mathlib.Decide.{dec_le}
use native.Mathlib.Omega.{arith}
use borrow.Author.Tests.{lt-ltb, le-ltb, le-leb, lt-leb}
use lib.Dec.{leb}
use Rattle.figures.specs.declared.Refusal.TheVariants.{EntryNumber, NoSpeed}
use Rattle.figures.specs.Refusal.{unless, number_of, check_number, check_of, answered}
use Rattle.figures.specs.Rules.{lowest_number}
use Rattle.figures.proofs.Numbers.{unless_number, check_of-answered}
use Rattle.speeds.specs.Speeds.{SpeedAnswer, speed_check, speed_number, answer_at}
use Rattle.speeds.specs.Private.{speed_found}
use Rattle.std.specs.Prelude.{Ok, Err, ok_or}

module _ (entry entries v : ℕ) where
  pub outside : ((1 ≤ entry) × (entry ≤ entries) → ⊥) → speed_check entry entries v ≡ Err EntryNumber
  unfolding speed_check unless
  outside out = go (dec_le 1 entry) (dec_le entry entries)
    where
      go : Dec (1 ≤ entry) → Dec (entry ≤ entries) → speed_check entry entries v ≡ Err EntryNumber
      go (no f) d = rw (lt-leb 1 entry (lt_of_not-le f)) refl
      go (yes h) (no f) = rw (lt-leb entry entries (lt_of_not-le f), and-false (leb 1 entry)) refl
      go (yes h) (yes g) = absurd (out (h, g))

  pub none_found : 1 ≤ entry → entry ≤ entries → v ≡ 0 → speed_check entry entries v ≡ Err NoSpeed
  unfolding speed_check unless
  none_found a b e = rw (le-leb 1 entry a, le-leb entry entries b, le-ltb 0 v (omega arith)) refl

  pub some_found : 1 ≤ entry → entry ≤ entries → 0 < v → speed_check entry entries v ≡ Ok tt
  unfolding speed_check unless
  some_found a b h = rw (le-leb 1 entry a, le-leb entry entries b, lt-ltb 0 v h) refl

  speed_number_lem : check_number (speed_check entry entries v) ≡ speed_number entry entries v
  unfolding speed_check speed_number lowest_number check_number number_of
  speed_number_lem = simp unless_number

-- the number of an answer
pub answer_number : (entry entries v : ℕ) {r : SpeedAnswer} → r ≡ answer_at entry entries v → check_number (check_of r) ≡ speed_number entry entries v
answer_number entry entries v e =
    ap (λ (r : SpeedAnswer). check_number (check_of r)) e ∙ ap check_number (check_of-answered (speed_check entry entries v) v) ∙ speed_number_lem entry entries v

-- of an entry there is, from what is found
pub inside : (entry entries v : ℕ) → 1 ≤ entry → entry ≤ entries → answer_at entry entries v ≡ ok_or (speed_found v) NoSpeed
unfolding answered speed_found
inside entry entries zero a b = rw (none_found entry entries 0 a b refl) refl
inside entry entries (suc v) a b = rw (some_found entry entries (suc v) a b (omega arith)) refl
