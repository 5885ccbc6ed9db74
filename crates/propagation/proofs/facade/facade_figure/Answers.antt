-- `propagation::facade::facade_figure` meets its contract.
use borrow.Author.Tests.{eq-eqb, ne_eqb}
use Rattle.figures.proofs.Read.{segment_read}
use Rattle.propagation.proofs.SegmentSum.{facade_is}
use Rattle.propagation.proofs.facade.facade_figure.Goals as goal

pub returns-then-s-eq1 : goal.returns-then-s-eq1
returns-then-s-eq1 c =
    let s = c.args.s in
    facade_is s (segment_read s c.struct_told-1.given).facade (eq-eqb _ 1 c.if-s-eq1.true)

pub returns : goal.returns
returns c =
    let s = c.args.s in
    facade_is s (segment_read s c.struct_told-1.given).facade (ne_eqb _ 1 c.if-s-eq1.false)
