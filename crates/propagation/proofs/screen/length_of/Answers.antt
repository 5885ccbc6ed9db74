-- `propagation::screen::length_of` meets its contract.
use Rattle.propagation.proofs.ScreenStep.{length_is}
use Rattle.propagation.proofs.screen.length_of.Goals as goal

pub returns : goal.returns
returns c = length_is c.args.n c.root.result c.requires c.root.ensures
