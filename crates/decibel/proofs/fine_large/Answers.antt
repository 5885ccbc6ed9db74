-- `decibel::fine_large` meets its contract.
use lib.Dec.{lit<}
use mathlib.Core.Path.{refl}
use Rattle.decibel.proofs.Rules.{decade_rule}
use Rattle.decibel.proofs.Walk.{sought}
use Rattle.decibel.proofs.FineTable.{base_some, ratio_sought, fine_large_is}
use Rattle.decibel.proofs.fine_large.Goals as goal

pub place-k-requires : goal.place-k-requires
place-k-requires c = let s = c.args.large.large in sought decade_rule.fits (lit< tt) (lit< tt) s.0 s.1

pub nonzero_div-large : goal.nonzero_div-large
nonzero_div-large c = base_some _ _ c.args.large.large.0 c.place-k.ensures _ refl

pub place-j-requires : goal.place-j-requires
place-j-requires c = ratio_sought _ _ c.args.large.large.0 c.place-k.ensures _ refl

pub returns : goal.returns
returns c = fine_large_is _ _ c.args.large.large.0 c.place-k.ensures _ refl _ _ c.place-j.ensures refl
