-- `decibel::ten_log` meets its contract by the law of the one decade.
use lib.Dec.{lit<}
use Rattle.decibel.proofs.Rules.{decade_rule}
use Rattle.decibel.proofs.Walk.{sought}
use Rattle.decibel.proofs.Lookup.{ten_log_read}
use Rattle.decibel.proofs.ten_log.Goals as goal

pub place-requires : goal.place-requires
place-requires c = let l = c.scaled-s.result.large in sought decade_rule.fits (lit< tt) (lit< tt) l.0 l.1

pub returns : goal.returns
returns c = ten_log_read _ c.scaled-s.ensures c.place.ensures
