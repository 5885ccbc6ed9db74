-- `propagation::ground::attenuation_of` meets its contract.
use Rattle.propagation.proofs.GroundStep.{attenuation_is}
use Rattle.propagation.proofs.ground.attenuation_of.Goals as goal
use Rattle.propagation.proofs.Chain.{in_range}

pub returns : goal.returns
returns c = attenuation_is (in_range c.args.ranged) c.natural.ensures c.fine_log-whole.ensures.is c.saturating_sub.ensures c.ground_factor.ensures
