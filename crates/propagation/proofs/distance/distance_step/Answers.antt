-- `propagation::distance::distance_step` meets its contract.
use Rattle.propagation.proofs.DistanceStep.{distance_is}
use Rattle.propagation.proofs.distance.distance_step.Goals as goal
use Rattle.propagation.proofs.Chain.{in_range}

pub returns : goal.returns
returns c = distance_is (in_range c.args.ranged) c.slant_of.ensures c.distance_tenths.ensures
