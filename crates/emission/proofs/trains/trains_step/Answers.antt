-- `emission::trains::trains_step` meets its contract.
use Rattle.figures.proofs.Kept.{train_ranged}
use Rattle.emission.proofs.TrainsStep.{trains_fits, trains_is}
use Rattle.emission.proofs.trains.trains_step.Goals as goal

pub overflow_sub-result : goal.overflow_sub-result
overflow_sub-result c =
    trains_fits c.args.period c.args.kept.train (train_ranged _ c.args.kept.kept) c.requires c.trains_in.ensures c.count_log.ensures c.hours.ensures

pub returns : goal.returns
returns c =
    trains_is c.args.period c.args.kept.train (train_ranged _ c.args.kept.kept) c.requires c.trains_in.ensures c.count_log.ensures c.hours.ensures
