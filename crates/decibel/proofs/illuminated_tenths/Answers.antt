-- `decibel::illuminated_tenths` meets its contract.
use lib.Dec.{lit<, lit≤}
use Rattle.decibel.proofs.Rules.{illuminated_rule}
use Rattle.decibel.proofs.Walk.{spans}
use Rattle.decibel.proofs.Lookup.{illuminated_read}
use Rattle.decibel.proofs.illuminated_tenths.Goals as goal

pub place_within-requires : goal.place_within-requires
place_within-requires c = spans illuminated_rule.fits (lit< tt) (lit< tt) (lit≤ tt)

pub returns : goal.returns
returns c = illuminated_read _ c.place_within.ensures
