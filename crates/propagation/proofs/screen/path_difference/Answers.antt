-- `propagation::screen::path_difference` meets its contract.
use native.Mathlib.Omega.{arith}
use Rattle.propagation.proofs.ScreenStep.{path_is}
use Rattle.propagation.proofs.screen.path_difference.Goals as goal

pub returns : goal.returns
returns c =
    omega (arith, path_is c.args.ranged.segment c.to_top.ensures c.from_top.ensures c.direct.ensures)
