-- `figures::ranges::angles_kept` meets its contract.
use Rattle.figures.specs.Rules.{angles_kept}
use Rattle.figures.proofs.Read.{segment_read}
use Rattle.figures.proofs.ranges.angles_kept.Goals as goal

pub returns : goal.returns
unfolding angles_kept
returns c =
    let f = segment_read c.args.s c.struct_told-3-1.given in
    simp (c.in_range.ensures, c.in_range-2.ensures, f.view, f.doubled)
