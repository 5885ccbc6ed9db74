-- `propagation::path_step` meets its contract.
use Rattle.propagation.specs.Private.{Screens}
use Rattle.propagation.proofs.GroundStep.{path_screened}
use Rattle.propagation.proofs.path_step.Goals as goal

pub ground_step-requires : goal.ground_step-requires
unfolding Screens
ground_step-requires c = c.in-None.ensures

pub returns-in-Some : goal.returns-in-Some
unfolding Screens
returns-in-Some c = let e = c.in-Some.ensures in path_screened _ e.0 e.1
