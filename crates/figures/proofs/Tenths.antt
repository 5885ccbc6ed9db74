-- A step's tenths as a table answers them.
-- Assumes nothing.
use mathlib.Core.Path.{sym, ◌∙◌, ap}
use Prim.Native.Nat.{ℕ, ◌≤◌}
use lib.Dec.{lit≤}
use lib.IntN.{ℤ}
use Rattle.decibel.specs.Lookup.{Formula, fence_at, lowest, highest, tenths_at, Tenth}
use Rattle.decibel.specs.Round.{nearest}
use Rattle.decibel.proofs.Greatest.{clamp_same}
use Rattle.figures.specs.Bounds.{Below}
use Rattle.figures.specs.Private.{Exactly}
use Rattle.figures.proofs.Signs.{below_more, below_mag}

pub tenth_below : {v r : ℤ} → Tenth v r → Below 1001 r
tenth_below a = below_mag a.small

-- an answer in a formula's range is a step's tenths
pub tenths_of_lem : {r : ℤ} (f : Formula) (n : ℕ) → lowest f ≤ n → n ≤ highest f → Tenth (tenths_at f n) r → Exactly (nearest (fence_at f n)) r
unfolding tenths_at
tenths_of_lem f n l h a =
    record {
      is = a.is ∙ ap (λ (x : ℕ). nearest (fence_at f x)) (sym (clamp_same (lowest f) (highest f) n l h));
      small = below_more (lit≤ tt) (tenth_below a);
    }
