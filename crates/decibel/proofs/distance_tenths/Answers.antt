-- `decibel::distance_tenths` meets its contract.
use lib.Dec.{lit<, lit≤}
use Rattle.decibel.proofs.Rules.{distance_rule}
use Rattle.decibel.proofs.Walk.{spans}
use Rattle.decibel.proofs.Lookup.{distance_read}
use Rattle.decibel.proofs.distance_tenths.Goals as goal

pub place_within-requires : goal.place_within-requires
place_within-requires c = spans distance_rule.fits (lit< tt) (lit< tt) (lit≤ tt)

pub returns : goal.returns
returns c = distance_read _ c.place_within.ensures
