-- `request::cell_of` meets its contract.
use borrow.Author.Rules.{rules}
use lib.IntN.{◌+ℤ◌}
use Rattle.decibel.proofs.Words.{back}
use Rattle.request.proofs.Cells.{back16, wide, silent_raised, figure_raised, raised_small}
use Rattle.request.proofs.cell_of.Goals as goal

pub overflow_add-result : goal.overflow_add-result
overflow_add-result c =
    let t = c.args.tenths in
    rw (c.from.ensures, back16 t c.ranges.tenths.sfits, back t (wide t c.ranges.tenths.sfits), back c.in-Figure.r (search rules)) (record { sfits = raised_small t c.ranges.tenths.sfits c.requires c.in-Figure.is })

pub returns-in-Silent : goal.returns-in-Silent
returns-in-Silent c = silent_raised c.args.tenths c.in-Silent.is

pub returns-in-Figure : goal.returns-in-Figure
returns-in-Figure c =
    let t = c.args.tenths in
    rw (c.from.ensures, back16 t c.ranges.tenths.sfits, back t (wide t c.ranges.tenths.sfits), back c.in-Figure.r (search rules), back (t +ℤ c.in-Figure.r) (raised_small t c.ranges.tenths.sfits c.requires c.in-Figure.is))
    (figure_raised t c.in-Figure.is)
