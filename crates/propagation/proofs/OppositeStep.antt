-- The step of opposite facades: its fence and tenth are those of its exact value, the step as the code takes it, how far it lies from zero.
-- Assumes nothing.
use mathlib.Core.Path.{◌≡◌, ◌∙◌, ap₂}
use Prim.Native.Nat.{ℕ, ◌+◌, ◌*◌, ◌/◌, ◌≤◌, ◌<◌}
use native.Mathlib.Nat.{le_refl, le-div_iff_mul-le, mul-le-mul, mul-div-le, div-le_of_le-mul}
use native.Mathlib.Omega.{arith}
use lib.Dec.{lit<, lit≤}
use lib.IntN.{ℤ, pos, negsuc, ◌*ℤ◌}
use lib.Signed.{◌≤ℤ◌}
use mir.Syntax.{w32}
use mir.Val.{SFits, to_z}
use Rattle.decibel.specs.Ints.{up, dn}
use Rattle.decibel.specs.Round.{nearest, IsFence, IsNearest}
use Rattle.decibel.proofs.Ints.{mul_is, le_is, ints}
use Rattle.decibel.proofs.Round.{nearest_exact}
use Rattle.figures.specs.declared.Segment.{Segment}
use Rattle.figures.specs.Private.{Exactly}
use Rattle.figures.proofs.Ranged.{Signed, Ranged, ReadingsRanged}
use Rattle.figures.proofs.Signs.{read, cast_read, natural_below, read_up}
use Rattle.propagation.specs.Opposite.{opposite_fence, OppositeAtLeast}

opposite_falls : (s : Segment) (m n : ℤ) → m ≤ℤ n → OppositeAtLeast s n → OppositeAtLeast s m
unfolding OppositeAtLeast
opposite_falls s m n h a =
    let v = up s.view in
    let wide : v * (up m + dn n) ≤ v * (up n + dn m) = mul-le-mul (le_refl v) (omega (arith, ints)) in
    omega (arith, ints, a, mul_is v m, mul_is v n)

pub opposite_fence_largest : (s : Segment) → 0 < up s.view → IsFence (OppositeAtLeast s) (opposite_fence s)
unfolding OppositeAtLeast opposite_fence
opposite_fence_largest s p =
    let v = up s.view in
    let x = 1500000 * up s.opposite in
    record { fits = omega (arith, ints, mul_is v (pos (x / v)), mul-div-le x v); top = λ m a. above m (le_is (pos v *ℤ m) (pos x) a) (mul_is v m) }
  where
    above : (m : ℤ) → up (pos (up s.view) *ℤ m) + 0 ≤ 1500000 * up s.opposite + dn (pos (up s.view) *ℤ m) → (up (pos (up s.view) *ℤ m) ≡ up s.view * up m) × (dn (pos (up s.view) *ℤ m) ≡ up s.view * dn m) → m ≤ℤ pos (1500000 * up s.opposite / up s.view)
    above (pos a) l e = let h : a ≤ 1500000 * up s.opposite / up s.view = (le-div_iff_mul-le p).1 (omega arith) in omega (arith, ints)
    above (negsuc a) l e = omega (arith, ints)

pub opposite_tenth_nearest : (s : Segment) → 0 < up s.view → IsNearest (OppositeAtLeast s) (nearest (opposite_fence s))
opposite_tenth_nearest s p = nearest_exact (OppositeAtLeast s) (opposite_falls s) (opposite_fence s) (opposite_fence_largest s p)

-- ---- as the code takes it

-- the figures as they are read
module _ {s : Segment} (g : Ranged s) (q : ReadingsRanged s) {o : ℕ} (e : o ≡ up (read s.opposite)) where
  opposite_read : o ≡ up s.opposite
  opposite_read = read_up (omega (arith, g.view.most)) q.opposite e

  module _ {v : ℕ} (f : v ≡ up (read s.view)) where
    view_read : v ≡ up s.view
    view_read = read_up (lit< tt) g.view f

    pub view_some : 0 < v
    view_some = omega (arith, view_read, g.view.least)

    share_most : 1500000 * o / v ≤ 1500000
    share_most = div-le_of_le-mul v (omega (arith, view_read, opposite_read, q.opposite.most))

    pub share_cast : SFits w32 (pos ((1500000 * o / v + 50000) / 100000))
    share_cast = record { sfits = omega (arith, share_most) }

    pub opposite_is : Exactly (nearest (opposite_fence s)) (to_z w32 ((1500000 * o / v + 50000) / 100000))
    unfolding nearest opposite_fence
    opposite_is =
        let i = cast_read ((1500000 * o / v + 50000) / 100000) (omega (arith, share_most)) in
        record {
          is = i ∙ ap₂ (λ (m n : ℕ). pos ((1500000 * m / n + 50000) / 100000)) opposite_read view_read;
          small = rw i (natural_below (omega (arith, share_most)));
        }

pub opposite_lies : {s : Segment} → ReadingsRanged s → Signed 0 1500000 (opposite_fence s)
unfolding opposite_fence
opposite_lies {s} q = record { most = div-le_of_le-mul (up s.view) (omega (arith, q.opposite.most)); least = lit≤ tt }
