-- `figures::ranges::screened_kept` meets its contract.
use mir.Facts.{to_z-of_z}
use Rattle.figures.specs.Rules.{screened_kept}
use lib.Dec.{lit<}
use Rattle.figures.proofs.Read.{segment_read}
use Rattle.figures.proofs.Same.{one_number}
use Rattle.figures.proofs.ranges.screened_kept.Goals as goal

pub returns : goal.returns
unfolding screened_kept
returns c =
    let f = segment_read c.args.s c.struct_told-4-1.given in
    simp (c.stands_between.ensures, c.in_range.ensures, c.in_range-2.ensures, c.in_range-3.ensures, f.top, f.chart, f.wall, one_number 0 _ (lit< tt) f.ballast, to_z-of_z c.ranges.most)
