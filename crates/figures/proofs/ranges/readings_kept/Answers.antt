-- `figures::ranges::readings_kept` meets its contract.
use Rattle.figures.specs.Rules.{readings_kept}
use Rattle.figures.proofs.Read.{segment_read}
use Rattle.figures.proofs.ranges.readings_kept.Goals as goal

pub returns : goal.returns
unfolding readings_kept
returns c =
    let f = segment_read c.args.s c.struct_told-5-1.given in
    simp (c.in_range.ensures, c.in_range-2.ensures, c.in_range-3.ensures, c.in_range-4.ensures, f.track, f.ballast, f.facade, f.view, f.opposite)
