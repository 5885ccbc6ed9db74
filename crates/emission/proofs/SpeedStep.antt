-- The speed step: as the code takes it, its fence, how far it lies from zero.
-- Assumes nothing.
use mathlib.Core.Path.{◌≡◌, sym, ◌∙◌, ap}
use Prim.Native.Nat.{ℕ, ◌*◌, ◌≤◌, ◌<◌}
use native.Mathlib.Nat.{le_trans, mul-le-mul}
use native.Mathlib.Omega.{arith}
use lib.Dec.{lit<, lit≤}
use lib.IntN.{ℤ, pos, ◌+ℤ◌}
use lib.Signed.{◌≤ℤ◌}
use Rattle.decibel.specs.Ints.{up}
use Rattle.decibel.specs.Log.{AtLeast, fence}
use Rattle.decibel.specs.Lookup.{ten_log, fence_at, lowest, highest, tenths_at, Tenth}
use Rattle.decibel.specs.Round.{micro, nearest, IsFence}
use Rattle.decibel.proofs.Round.{nearest_plus, nearest_rises}
use Rattle.decibel.proofs.Exact.{fence_is, fence_rises}
use Rattle.decibel.proofs.Fences.{fence_square, fence-add}
use Rattle.figures.specs.declared.Train.{Train}
use Rattle.figures.specs.Rules.{most_speed}
use Rattle.figures.specs.Private.{Exactly}
use Rattle.figures.proofs.Ranged.{Signed, TrainRanged}
use Rattle.figures.proofs.Signs.{read, below_more, natural_below, summed}
use Rattle.figures.proofs.Tenths.{tenth_below, tenths_of_lem}
use Rattle.figures.proofs.Lies.{lies_fence}
use Rattle.emission.specs.Speed.{least_counted, counted_speed, speed_fence}

-- ---- the speed as counted

pub slow_counted : (t : Train) {n : ℕ} → n ≡ up t.speed → n < least_counted → least_counted ≡ counted_speed t
unfolding counted_speed
slow_counted t e h = omega arith

pub typed_counted : (t : Train) {n : ℕ} → n ≡ up t.speed → least_counted ≤ n → n ≡ counted_speed t
unfolding counted_speed
typed_counted t e h = omega arith

counted_lies : (t : Train) → TrainRanged t → (least_counted ≤ counted_speed t) × (counted_speed t ≤ most_speed)
unfolding counted_speed
counted_lies t g = (omega arith, omega (arith, g.speed.most))

-- ---- the step

-- twice the factor is the logarithm of the square
speed_square : (v : ℕ) → 0 < v → fence 31200000 20000000 v 1 ≡ micro (pos 312) +ℤ fence 0 10000000 (v * v) 1
unfolding micro
speed_square v h = fence_square 31200000 10000000 v h ∙ sym (fence-add 31200000 0 10000000 (v * v) 1)

module _ (t : Train) (g : TrainRanged t) {n : ℕ} (e : n ≡ counted_speed t) {x : ℤ} (a : Tenth (tenths_at ten_log (n * n)) x) where
  pub speed_is : Exactly (nearest (speed_fence t)) (read (read (pos 312) +ℤ read x))
  unfolding speed_fence fence_at lowest highest
  speed_is =
      let low : least_counted ≤ n = omega (arith, counted_lies t g) in
      let high : n ≤ most_speed = omega (arith, counted_lies t g) in
      let log = tenths_of_lem ten_log (n * n) (le_trans (lit≤ tt) (mul-le-mul low low)) (le_trans (mul-le-mul high high) (lit≤ tt)) a in
      let s = summed {m = 313} {x = pos 312} (natural_below (lit< tt)) (tenth_below a) (lit≤ tt) in
      let is = sym (nearest_plus (pos 312) (fence 0 10000000 (n * n) 1)) ∙ ap nearest (sym (speed_square n (omega arith))) ∙ ap (λ (v : ℕ). nearest (fence 31200000 20000000 v 1)) e in
      record { is = s.is ∙ ap (λ (y : ℤ). pos 312 +ℤ y) log.is ∙ is; small = below_more (lit≤ tt) s.small }

module _ (t : Train) (g : TrainRanged t) where
  pub speed_lies : Signed 0 91200000 (speed_fence t)
  unfolding speed_fence
  speed_lies = lies_fence 31200000 0 3 20000000 (counted_speed t) 1 (omega (arith, counted_lies t g)) (lit< tt) (omega (arith, counted_lies t g)) (omega (arith, counted_lies t g))

  pub speed_fence_lem : IsFence (AtLeast 31200000 20000000 (counted_speed t) 1) (speed_fence t)
  unfolding speed_fence
  speed_fence_lem = fence_is 31200000 20000000 (counted_speed t) 1 (omega (arith, counted_lies t g)) (lit< tt)

-- ---- a faster train

counted_rises : (t u : Train) → up t.speed ≤ up u.speed → counted_speed t ≤ counted_speed u
unfolding counted_speed
counted_rises t u h = omega arith

counted_some : (t : Train) → 0 < counted_speed t
unfolding counted_speed
counted_some t = omega arith

-- its step is no lower
pub speed_rises : (t u : Train) → up t.speed ≤ up u.speed → nearest (speed_fence t) ≤ℤ nearest (speed_fence u)
unfolding speed_fence
speed_rises t u h = nearest_rises (speed_fence t) (speed_fence u) (fence_rises 31200000 20000000 1 (counted_some t) (lit< tt) (counted_rises t u h))
