-- `figures::ranges::heights_kept` meets its contract.
use Rattle.figures.specs.Rules.{heights_kept}
use Rattle.figures.proofs.Read.{segment_read}
use Rattle.figures.proofs.ranges.heights_kept.Goals as goal

pub returns : goal.returns
unfolding heights_kept
returns c =
    let f = segment_read c.args.s c.struct_told-2-1.given in
    simp (c.in_range.ensures, c.in_range-2.ensures, f.height, f.mean)
