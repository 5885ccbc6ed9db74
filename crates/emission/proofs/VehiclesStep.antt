-- The vehicles step: as the code takes it, its fence, how far it lies from zero.
-- Assumes nothing.
use mathlib.Core.Path.{◌≡◌, ap}
use Prim.Native.Nat.{ℕ}
use native.Mathlib.Omega.{arith}
use lib.Dec.{lit<}
use lib.IntN.{ℤ}
use Rattle.decibel.specs.Ints.{up}
use Rattle.decibel.specs.Log.{AtLeast, fence}
use Rattle.decibel.specs.Lookup.{ten_log, fence_at, lowest, highest, tenths_at, Tenth}
use Rattle.decibel.specs.Round.{nearest, IsFence}
use Rattle.decibel.proofs.Exact.{fence_is}
use Rattle.figures.specs.declared.Train.{Train}
use Rattle.figures.specs.Private.{Exactly}
use Rattle.figures.proofs.Ranged.{Signed, TrainRanged}
use Rattle.figures.proofs.Signs.{read, exactly_read, exactly_by}
use Rattle.figures.proofs.Tenths.{tenths_of_lem}
use Rattle.figures.proofs.Lies.{lies_fence}
use Rattle.emission.specs.Vehicles.{vehicles_fence}

module _ (t : Train) (g : TrainRanged t) where
  pub vehicles_is : {n : ℕ} {r : ℤ} → n ≡ up t.vehicles → Tenth (tenths_at ten_log n) r → Exactly (nearest (vehicles_fence t)) (read r)
  unfolding vehicles_fence fence_at lowest highest
  vehicles_is {n} e a =
      exactly_read (exactly_by (ap (λ (k : ℕ). nearest (fence 0 10000000 k 1)) e) (tenths_of_lem ten_log n (omega (arith, g.vehicles.least)) (omega (arith, g.vehicles.most)) a))

  pub vehicles_lies : Signed 0 20000000 (vehicles_fence t)
  unfolding vehicles_fence
  vehicles_lies = lies_fence 0 0 2 10000000 (up t.vehicles) 1 g.vehicles.least (lit< tt) (omega (arith, g.vehicles.least)) (omega (arith, g.vehicles.most))

  pub vehicles_fence_lem : IsFence (AtLeast 0 10000000 (up t.vehicles) 1) (vehicles_fence t)
  unfolding vehicles_fence
  vehicles_fence_lem = fence_is 0 10000000 (up t.vehicles) 1 g.vehicles.least (lit< tt)
