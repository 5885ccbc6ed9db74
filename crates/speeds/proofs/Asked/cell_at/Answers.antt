-- `speeds::Asked::cell_at` meets its contract.
use Rattle.std.proofs.Common.{arith, rules, ◌<◌, ◌^◌}
use mir.Facts.{to_z_pos}
use mir.Syntax.{w32}
use Rattle.decibel.proofs.Words.{back}
use Rattle.request.proofs.Cells.{back16}
use Rattle.speeds.proofs.Trials.{period_cell}
use Rattle.speeds.proofs.Asked.cell_at.Goals as goal

pub returns : goal.returns
returns c =
    let low : c.args.speed < 2 ^ 31 = omega (arith, c.requires) in
    let q = c.args.self.now in
    let t = q.train in
    rw (back c.of.result (search rules), c.of.ensures, c.entry_cells.ensures, to_z_pos w32 low, back16 q.tenths (search rules), back t.row (search rules), back t.vehicles (search rules), back t.day (search rules), back t.night (search rules))
    (period_cell q.period q.tenths _)
