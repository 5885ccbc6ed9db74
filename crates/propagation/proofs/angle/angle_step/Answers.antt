-- `propagation::angle::angle_step` meets its contract.
use Rattle.std.proofs.Common.{rules, arith, lit<}
use Rattle.propagation.proofs.AngleStep.{view_is, angle_is}
use Rattle.figures.proofs.Signs.{read_up}
use Rattle.propagation.proofs.angle.angle_step.Goals as goal
use Rattle.propagation.proofs.Chain.{in_range}

pub returns : goal.returns
returns c = angle_is (in_range c.args.ranged) (view_is (in_range c.args.ranged) c.natural.ensures c.natural-2.ensures c.y_of-y.ensures (search rules)) c.ten_log.ensures

pub y_of-y-requires : goal.y_of-y-requires
y_of-y-requires c = omega (arith, read_up (lit< tt) (in_range c.args.ranged).view c.natural.ensures, (in_range c.args.ranged).view.most)
