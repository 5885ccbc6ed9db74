-- `request::entry_cells` meets its contract.
use Rattle.decibel.proofs.Words.{back}
use Rattle.request.specs.Request.{entry_cells}
use Rattle.request.proofs.Cells.{back16}
use Rattle.request.proofs.entry_cells.Goals as goal

pub returns : goal.returns
unfolding entry_cells
returns c =
    let d = c.cell_of in
    let n = c.cell_of-2 in
    let emissions = c.emissions_of-emissions in
    rw (back d.result d.type_inv, back n.result n.type_inv, d.ensures, n.ensures, emissions.ensures.0.is, emissions.ensures.1.is, back16 c.args.tenths c.ranges.tenths.sfits)
