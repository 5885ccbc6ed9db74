-- `decibel::count_log` meets its contract.
use Rattle.decibel.proofs.Small.{small_read}
use Rattle.decibel.proofs.count_log.Goals as goal

pub returns-then-n-lt200 : goal.returns-then-n-lt200
returns-then-n-lt200 c = small_read _ c.if-n-lt200.true c.from.ensures
