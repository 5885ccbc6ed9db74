-- `propagation::readings_of` meets its contract.
use lib.Dec.{lit≤}
use Rattle.propagation.proofs.SegmentSum.{four_read}
use Rattle.propagation.proofs.readings_of.Goals as goal

pub returns : goal.returns
returns c = let p = c.requires in four_read p.facade p.chart p.track p.ballast (lit≤ tt)
