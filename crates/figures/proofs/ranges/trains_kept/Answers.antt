-- `figures::ranges::trains_kept` meets its contract.
use Rattle.figures.specs.Rules.{trains_kept}
use Rattle.figures.proofs.Read.{train_read}
use Rattle.figures.proofs.ranges.trains_kept.Goals as goal

pub returns : goal.returns
unfolding trains_kept
returns c =
    let f = train_read c.args.t c.struct_told-2-1.given in
    simp (c.in_range.ensures, c.in_range-2.ensures, f.day, f.night)
