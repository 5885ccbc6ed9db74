-- Each train step's fence is the largest whole number of microdecibels not above its exact value.
-- Assumes nothing.
use mathlib.Core.Path.{◌≡◌}
use Rattle.figures.specs.declared.Train.{Train}
use Rattle.figures.specs.Rules.{train_check}
use Rattle.figures.proofs.Kept.{train_ranged}
use Rattle.emission.specs.Fences.{TrainFences}
use Rattle.emission.proofs.SpeedStep.{speed_fence_lem}
use Rattle.emission.proofs.VehiclesStep.{vehicles_fence_lem}
use Rattle.emission.proofs.TrainsStep.{trains-fence}
use Rattle.std.specs.Prelude.{Ok}

pub train_fences : (t : Train) → train_check t ≡ Ok tt → TrainFences t
train_fences t e = let g = train_ranged t e in record { speed = speed_fence_lem t g; vehicles = vehicles_fence_lem t g; trains = λ p. trains-fence p t }
