-- `figures::ranges::distance_kept` meets its contract.
use Rattle.figures.specs.Rules.{distance_kept}
use Rattle.figures.proofs.Read.{segment_read}
use Rattle.figures.proofs.ranges.distance_kept.Goals as goal

pub returns : goal.returns
unfolding distance_kept
returns c = simp (c.in_range.ensures, (segment_read c.args.s c.struct_told-1.given).distance)
