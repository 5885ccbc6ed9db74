-- `figures::ranges::unscreened_kept` meets its contract.
use Rattle.figures.specs.Rules.{unscreened_kept}
use lib.Dec.{lit<}
use Rattle.figures.proofs.Read.{segment_read}
use Rattle.figures.proofs.Same.{one_number}
use Rattle.figures.proofs.ranges.unscreened_kept.Goals as goal

pub returns : goal.returns
unfolding unscreened_kept
returns c =
    let f = segment_read c.args.s c.struct_told-4-1.given in
    simp (one_number 0 _ (lit< tt) f.setback, one_number 0 _ (lit< tt) f.top, one_number 0 _ (lit< tt) f.chart, one_number 0 _ (lit< tt) f.wall)
