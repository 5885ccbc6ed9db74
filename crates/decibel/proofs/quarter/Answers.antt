-- `decibel::quarter` meets its contract.
use Rattle.decibel.proofs.SineTable.{entry_is_sine}
use Rattle.decibel.proofs.quarter.Goals as goal

pub returns : goal.returns
returns c = entry_is_sine c.requires c.from.ensures
