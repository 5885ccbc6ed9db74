-- `propagation::ground::ground_factor` meets its contract.
use mathlib.Core.Path.{◌∙◌}
use lib.Dec.{lit≤}
use Rattle.decibel.proofs.Greatest.{clamp_is}
use Rattle.propagation.proofs.GroundStep.{factor_is}
use Rattle.propagation.proofs.ground.ground_factor.Goals as goal
use Rattle.propagation.proofs.Chain.{in_range}

pub returns : goal.returns
returns c = factor_is (in_range c.args.ranged) c.natural.ensures c.natural-2.ensures (c.clamp.ensures ∙ clamp_is 100 600 _ (lit≤ tt))
