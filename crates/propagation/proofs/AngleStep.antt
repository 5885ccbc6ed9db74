-- The angle step: y as the code takes it, the step, its fence.
-- Assumes nothing.
use mathlib.Core.Path.{◌≡◌, sym, ◌∙◌, ap, ap₂, subst}
use Prim.Native.Nat.{ℕ, suc, ◌+◌, ◌*◌, ◌/◌, ◌≤◌, ◌<◌}
use native.Mathlib.Nat.{le_trans, lt_of_le_of_lt}
use native.Mathlib.Omega.{arith}
use lib.Dec.{lit<, lit≤}
use lib.IntN.{ℤ, pos, negsuc, neg_ℤ, ◌+ℤ◌, ◌-ℤ◌, ◌*ℤ◌}
use lib.Signed.{mag, quot_z}
use mir.Syntax.{w64}
use mir.Val.{SFits, to_z, of_z}
use mir.Facts.{to_z-of_z, to_z_pos}
use Rattle.decibel.specs.Ints.{up, dn}
use Rattle.decibel.specs.Log.{AtLeast, fence}
use Rattle.decibel.specs.Lookup.{ten_log, tenths_at, fence_at, lowest, highest, Tenth}
use Rattle.decibel.specs.Round.{nearest, IsFence}
use Rattle.decibel.specs.Sine.{sine_at, cosine_at}
use Rattle.decibel.proofs.Ints.{add_is, add_most, neg_is, mag_most, ints}
use Rattle.decibel.proofs.Words.{mag_mul, back64}
use Rattle.decibel.proofs.Round.{tie_is, nearest_is, nearest-between}
use Rattle.decibel.proofs.Exact.{fence_is}
use Rattle.decibel.proofs.Fences.{fence_shift}
use Rattle.figures.specs.declared.Segment.{Segment}
use Rattle.figures.specs.Private.{Exactly}
use Rattle.figures.proofs.Ranged.{Ranged}
use Rattle.figures.proofs.Signs.{read, below_more, read_up, less}
use Rattle.figures.proofs.Tenths.{tenth_below, tenths_of_lem}
use Rattle.figures.proofs.Lies.{fence_less}
use Rattle.propagation.specs.Angle.{y_of, angle_fence}
use Rattle.propagation.specs.Private.{View}
use Rattle.propagation.proofs.AngleRange.{view_lies}

-- as it is written and read, in 64 bits
abbrev wide : ℤ → ℤ
wide z = to_z w64 (of_z w64 z)

quotient_most : (z : ℤ) → mag z ≤ 4000000000000000000 → (up (quot_z z (pos 1000000000)) ≤ 4000000000) × (dn (quot_z z (pos 1000000000)) ≤ 4000000001)
quotient_most (pos n) h = omega arith
quotient_most (negsuc n) h = omega (arith, neg_is (pos (suc n / 1000000000)))

-- y of a sine p and a cosine q, whatever they are
module _ (view : ℕ) (p q : ℤ) (h : view ≤ 180) (f : mag p < 2000000000) (g : mag q < 2000000000) where
  abbrev y : ℤ
  y = pos (3141592654 * view / 180) -ℤ quot_z (p *ℤ q) (pos 1000000000)

  sines_read : wide p *ℤ wide q ≡ p *ℤ q
  sines_read = ap₂ ◌*ℤ◌ (back64 p (omega arith)) (back64 q (omega arith))

  product_small : mag (p *ℤ q) ≤ 4000000000000000000
  product_small = mag_mul p q f g

  quotient_read : quot_z (wide (wide p *ℤ wide q)) (pos 1000000000) ≡ quot_z (p *ℤ q) (pos 1000000000)
  quotient_read = ap (λ (z : ℤ). quot_z z (pos 1000000000)) (ap wide sines_read ∙ back64 (p *ℤ q) (lt_of_le_of_lt product_small (lit< tt)))

  quotient_small : mag (quot_z (p *ℤ q) (pos 1000000000)) < 9000000000
  quotient_small = omega (arith, quotient_most (p *ℤ q) product_small, mag_most (quot_z (p *ℤ q) (pos 1000000000)))

  y_small : mag y < 20000000000
  y_small =
      let w = quot_z (p *ℤ q) (pos 1000000000) in
      y_bound (3141592654 * view / 180) w (omega arith) (quotient_most (p *ℤ q) product_small)
    where
      y_bound : (n : ℕ) (w : ℤ) → n ≤ 3141592654 → (up w ≤ 4000000000) × (dn w ≤ 4000000001) → mag (pos n -ℤ w) < 20000000000
      y_bound n w a b = omega (arith, mag_most (pos n -ℤ w), add_most (pos n) (neg_ℤ w), neg_is w)

  abbrev written : ℤ
  written = to_z w64 (3141592654 * view / 180) -ℤ wide (quot_z (wide (wide p *ℤ wide q)) (pos 1000000000))

  written_is : written ≡ y
  written_is = ap₂ ◌-ℤ◌ (to_z_pos w64 {n = 3141592654 * view / 180} (omega arith)) (ap wide quotient_read ∙ back64 (quot_z (p *ℤ q) (pos 1000000000)) (omega (arith, quotient_small)))

  pub y_fits : SFits w64 written
  y_fits = rw written_is (record { sfits = omega (arith, y_small) })

  y_read : wide written ≡ y
  y_read = to_z-of_z y_fits ∙ written_is

  pub y_is : {doubled : ℕ} → p ≡ sine_at view → q ≡ cosine_at doubled → View view doubled (wide written)
  unfolding y_of
  y_is {doubled} e i =
      rw y_read (record { is = ap₂ (λ (x z : ℤ). pos (3141592654 * view / 180) -ℤ quot_z (x *ℤ z) (pos 1000000000)) e i; small = y_small })

-- of the figures as they are read
pub view_is : {s : Segment} → Ranged s → {v a n : ℕ} {y : ℤ} → v ≡ up (read s.view) → a ≡ up (read s.doubled) → View v a y → n ≡ up (wide y) → n ≡ up (y_of (up s.view) (up s.doubled))
view_is g {y = y} e f w i =
    i ∙ ap up (back64 y (omega (arith, w.small)) ∙ w.is ∙ ap₂ y_of (read_up (lit< tt) g.view e) (read_up (lit< tt) g.doubled f))

-- nine powers of ten in the divisor are 90 decibels
angle_nearest : (y : ℕ) {r : ℤ} → 0 < y → r ≡ nearest (fence 0 10000000 y 1) +ℤ negsuc 949 → r ≡ nearest (fence 0 10000000 y 1000000000 -ℤ pos 5000000)
angle_nearest y {r} p e =
    let f = fence 0 10000000 y 1000000000 in
    let x = nearest (fence 0 10000000 y 1) in
    let b = nearest-between (fence 0 10000000 y 1) in
    let i : up (fence 0 10000000 y 1) + dn f ≡ up f + 90000000 + dn (fence 0 10000000 y 1) =
    subst (λ (z : ℤ). up z + dn f ≡ up f + 90000000 + dn z) (fence_shift 0 10000000 y 1 9 p (lit< tt)) (omega (arith, add_is (pos 90000000) f)) in
    let j : up r + dn x + 950 ≡ up x + dn r = subst (λ (z : ℤ). up z + dn x + 950 ≡ up x + dn z) (sym e) (omega (arith, add_is x (negsuc 949))) in
    nearest_is (f -ℤ pos 5000000) r
    (omega (arith, ints, b.0, tie_is r, tie_is x, add_is f (negsuc 4999999)))
    (omega (arith, ints, b.1, tie_is (r +ℤ pos 1), add_is r (pos 1), tie_is (x +ℤ pos 1), add_is x (pos 1), add_is f (negsuc 4999999)))

module _ {s : Segment} (g : Ranged s) {n : ℕ} {x : ℤ} (e : n ≡ up (y_of (up s.view) (up s.doubled))) (a : Tenth (tenths_at ten_log n) x) where
  pub angle_is : Exactly (nearest (angle_fence s)) (read (read x -ℤ pos 950))
  unfolding fence_at lowest highest angle_fence
  angle_is =
      let y = up (y_of (up s.view) (up s.doubled)) in
      let w = view_lies (up s.view) (up s.doubled) g.view.least g.doubled.least g.doubled.most in
      let d = less 950 (tenth_below a) (lit≤ tt) in
      let l = tenths_of_lem ten_log n (omega (arith, w.low)) (omega (arith, w.high)) a in
      record {
        is = angle_nearest y (omega (arith, w.low)) (d.is ∙ ap (λ (z : ℤ). z +ℤ negsuc 949) (l.is ∙ ap (λ (m : ℕ). nearest (fence 0 10000000 m 1)) e));
        small = below_more (lit≤ tt) d.small;
      }

pub angle_fence_lem : {s : Segment} → Ranged s → IsFence (λ m. AtLeast 0 10000000 (up (y_of (up s.view) (up s.doubled))) 1000000000 (m +ℤ pos 5000000)) (angle_fence s)
unfolding angle_fence
angle_fence_lem {s} g =
    let y = up (y_of (up s.view) (up s.doubled)) in
    let w = view_lies (up s.view) (up s.doubled) g.view.least g.doubled.least g.doubled.most in
    fence_less (AtLeast 0 10000000 y 1000000000) (fence 0 10000000 y 1000000000) 5000000 (fence_is 0 10000000 y 1000000000 (le_trans (lit≤ tt) w.low) (lit< tt))
