-- Each train step's exact value, by the whole numbers of microdecibels that it is at least; and that its fence is the largest of them (01, "The bare level").
-- Assumes nothing.
use Rattle.std.specs.Prelude.{◌≡◌, true, ◌*◌, pos, ◌+ℤ◌}
use Rattle.decibel.specs.Ints.{up}
use Rattle.decibel.specs.Log.{AtLeast}
use Rattle.decibel.specs.Round.{IsFence}
use Rattle.figures.specs.declared.Train.{Train}
use Rattle.figures.specs.declared.Period.{Period}
use Rattle.emission.specs.Speed.{counted_speed, speed_fence}
use Rattle.emission.specs.Vehicles.{vehicles_fence}
use Rattle.emission.specs.Trains.{trains_in, sounds, hours_tenths, trains_fence}

-- proved of every accepted train as `train_fences` in proofs/Fences.antt
pub record TrainFences (t : Train) : Type 0 where
  -- "31.2 + 20·log V", V as counted
  pub speed : IsFence (AtLeast 31200000 20000000 (counted_speed t) 1) (speed_fence t)
  -- "10·log N"
  pub vehicles : IsFence (AtLeast 0 10000000 (up t.vehicles) 1) (vehicles_fence t)
  -- "10·log Q, less 48.1 by day or 43.3 by night", where there are trains
  pub trains : (p : Period) → sounds p t ≡ true → IsFence (λ m. AtLeast 0 10000000 (trains_in p t) 1 (m +ℤ pos (100000 * hours_tenths p))) (trains_fence p t)
