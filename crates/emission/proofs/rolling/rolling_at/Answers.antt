-- `emission::rolling::rolling_at` meets its contract. The array is the definition's list.
use mir.Facts.{to_z-of_z}
use Rattle.emission.specs.Rolling.{rollings}
use Rattle.emission.proofs.RollingFigures.{rolling_fits}
use Rattle.emission.proofs.rolling.rolling_at.Goals as goal

pub returns : goal.returns
unfolding rollings
returns c = rw c.from.ensures (to_z-of_z (rolling_fits c.args.row c.requires.0 c.requires.1))
