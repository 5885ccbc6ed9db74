-- `propagation::screen::wall_metres` meets its contract.
use native.Mathlib.Omega.{arith}
use Rattle.propagation.proofs.WallLoss.{low_wall, high_wall}
use Rattle.propagation.proofs.screen.wall_metres.Goals as goal
use Rattle.propagation.proofs.Chain.{in_range}

pub returns-then-height-lt-LEAST_WALL : goal.returns-then-height-lt-LEAST_WALL
returns-then-height-lt-LEAST_WALL c = low_wall (in_range c.args.ranged) c.natural-height.ensures (omega (arith, c.if-height-lt-LEAST_WALL.true))

pub returns : goal.returns
returns c = high_wall (in_range c.args.ranged) c.natural-height.ensures (omega (arith, c.if-height-lt-LEAST_WALL.false))
