-- `emission::train_parts_of` meets its contract.
use Rattle.emission.proofs.Emission.{parts_are}
use Rattle.emission.proofs.train_parts_of.Goals as goal

pub returns : goal.returns
returns c =
    parts_are _ c.speed_step.ensures c.vehicles_step.ensures c.rolling_figure.ensures c.trains_level.ensures c.trains_level-2.ensures
