-- `propagation::air::air_step` meets its contract.
use lib.Dec.{lit<}
use Rattle.figures.proofs.Signs.{read_up}
use Rattle.propagation.proofs.AirStep.{square_fits, passed_first, passed_next, air_is}
use Rattle.propagation.proofs.air.air_step.Goals as goal
use Rattle.propagation.proofs.Chain.{in_range}

pub overflow_mul-square : goal.overflow_mul-square
overflow_mul-square c = square_fits (in_range c.args.ranged) c.slant_of-square.ensures

pub loop-passed-init : goal.loop-passed-init
loop-passed-init c = let g = (in_range c.args.ranged) in passed_first g c.slant_of-square.ensures (read_up (lit< tt) g.distance c.natural-passed.ensures)

pub loop-passed-preserved : goal.loop-passed-preserved
loop-passed-preserved c = passed_next (in_range c.args.ranged) c.slant_of-square.ensures c.loop-passed.invariant c.loop-passed-test.true

pub returns : goal.returns
returns c = air_is (in_range c.args.ranged) c.slant_of-square.ensures c.loop-passed.invariant c.loop-passed-test.false
