-- `decibel::twenty_log` meets its contract.
use Rattle.decibel.proofs.Small.{square_read}
use Rattle.decibel.proofs.twenty_log.Goals as goal

pub returns-then-v-lt301 : goal.returns-then-v-lt301
returns-then-v-lt301 c = square_read _ c.if-v-lt301.true c.from.ensures
