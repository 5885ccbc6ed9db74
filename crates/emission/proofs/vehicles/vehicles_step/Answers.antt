-- `emission::vehicles::vehicles_step` meets its contract.
use Rattle.std.proofs.Common.{lit<}
use Rattle.figures.proofs.Kept.{train_ranged}
use Rattle.figures.proofs.Signs.{read_up}
use Rattle.emission.proofs.VehiclesStep.{vehicles_is}
use Rattle.emission.proofs.vehicles.vehicles_step.Goals as goal

pub returns : goal.returns
returns c =
    let g = train_ranged _ c.args.kept.kept in vehicles_is c.args.kept.train g (read_up (lit< tt) g.vehicles c.natural.ensures) c.count_log.ensures
