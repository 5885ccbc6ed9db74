-- The distance step: the square of the slant distance as it is read, the step as the code takes it, its fence, how far it lies from zero.
-- Assumes nothing.
use mathlib.Core.Path.{◌≡◌, ◌∙◌, ap, ap₂}
use Prim.Native.Nat.{ℕ, ◌+◌, ◌≤◌}
use native.Mathlib.Nat.{le_trans, mul-le-mul}
use native.Mathlib.Omega.{arith}
use lib.Dec.{lit<, lit≤}
use lib.IntN.{ℤ, pos, negsuc}
use Rattle.decibel.specs.Ints.{up, dn}
use Rattle.decibel.specs.Log.{AtLeast, fence}
use Rattle.decibel.specs.Lookup.{distance, tenths_at, fence_at, lowest, highest, Tenth}
use Rattle.decibel.specs.Round.{nearest, IsFence}
use Rattle.decibel.proofs.Exact.{fence_is}
use Rattle.figures.specs.declared.Segment.{Segment}
use Rattle.figures.specs.Geometry.{slant, slant_square}
use Rattle.figures.specs.Rules.{least_distance, most_distance, highest_window}
use Rattle.figures.specs.Private.{Exactly}
use Rattle.figures.proofs.Ranged.{Signed, Ranged}
use Rattle.figures.proofs.Signs.{read, below_back, from_below, signed_below, exactly_read, exactly_by}
use Rattle.figures.proofs.Squares.{squared_is, slant_most}
use Rattle.figures.proofs.Tenths.{tenths_of_lem}
use Rattle.figures.proofs.Lies.{lies_fence}
use Rattle.propagation.specs.Distance.{distance_fence}

size_most : (z : ℤ) (n : ℕ) → up z ≤ n → dn z ≤ n → up z + dn z ≤ n
size_most (pos m) n h l = omega arith
size_most (negsuc m) n h l = omega arith

module _ {s : Segment} (g : Ranged s) where
  pub read_distance : read s.distance ≡ s.distance
  read_distance = below_back (from_below (lit< tt) g.distance)

  pub read_height : read s.height ≡ s.height
  read_height = below_back (signed_below (lit< tt) (lit< tt) g.height)

  -- d'² as it is read
  pub slant_is : {n : ℕ} → n ≡ slant (read s.distance) (read s.height) → n ≡ slant_square s
  unfolding slant_square
  slant_is e = e ∙ ap₂ slant read_distance read_height

  pub slant_square_most : slant_square s ≤ 925000000
  unfolding slant_square
  slant_square_most = slant_most s.distance s.height most_distance highest_window (omega (arith, g.distance.most, g.distance.sign)) (size_most s.height highest_window g.height.most g.height.least)

  pub slant_square_least : 1000000 ≤ slant_square s
  unfolding slant_square slant
  slant_square_least = let h : least_distance ≤ up s.distance + dn s.distance = omega (arith, g.distance.least) in omega (arith, squared_is s.distance, mul-le-mul h h)

  pub distance_is : {n : ℕ} {r : ℤ} → n ≡ slant (read s.distance) (read s.height) → Tenth (tenths_at distance n) r → Exactly (nearest (distance_fence s)) (read r)
  unfolding fence_at lowest highest distance_fence
  distance_is {n} e a =
      let i = slant_is e in
      exactly_read (exactly_by (ap (λ (x : ℕ). nearest (fence 0 5000000 6250000 x)) i) (tenths_of_lem distance n (omega (arith, slant_square_least)) (omega (arith, slant_square_most)) a))

  pub distance_lies : Signed 15000000 5000000 (distance_fence s)
  unfolding distance_fence
  distance_lies =
      lies_fence 0 3 1 5000000 6250000 (slant_square s) (lit< tt) (le_trans (lit≤ tt) slant_square_least) (le_trans slant_square_most (lit≤ tt)) (omega (arith, slant_square_least))

  pub distance_fence_lem : IsFence (AtLeast 0 5000000 6250000 (slant_square s)) (distance_fence s)
  unfolding distance_fence
  distance_fence_lem = fence_is 0 5000000 6250000 (slant_square s) (lit< tt) (le_trans (lit≤ tt) slant_square_least)
