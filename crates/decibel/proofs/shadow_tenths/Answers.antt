-- `decibel::shadow_tenths` meets its contract.
use lib.Dec.{lit<, lit≤}
use Rattle.decibel.proofs.Rules.{shadow_rule}
use Rattle.decibel.proofs.Walk.{spans}
use Rattle.decibel.proofs.Lookup.{shadow_read}
use Rattle.decibel.proofs.shadow_tenths.Goals as goal

pub place_within-requires : goal.place_within-requires
place_within-requires c = spans shadow_rule.fits (lit< tt) (lit< tt) (lit≤ tt)

pub returns : goal.returns
returns c = shadow_read _ c.place_within.ensures
