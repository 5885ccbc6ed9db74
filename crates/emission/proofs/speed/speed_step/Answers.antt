-- `emission::speed::speed_step` meets its contract.
use Rattle.figures.proofs.Kept.{train_ranged}
use Rattle.emission.proofs.SpeedStep.{speed_is}
use Rattle.emission.proofs.speed.speed_step.Goals as goal

pub returns : goal.returns
returns c = speed_is c.args.kept.train (train_ranged _ c.args.kept.kept) c.counted_speed.ensures c.twenty_log.ensures
