-- `energy::cell_height` meets its contract.
use mathlib.Core.Path.{refl, sym, ◌∙◌, ap}
use native.Mathlib.Omega.{arith}
use lib.IntN.{pos, negsuc}
use Rattle.std.specs.Int.{int_min}
use Rattle.decibel.proofs.Words.{back}
use Rattle.energy.specs.Private.{height_at}
use Rattle.energy.proofs.Order.{less, not_less}
use Rattle.energy.proofs.Cells.{height_silent, height_cut}
use Rattle.energy.proofs.cell_height.Goals as goal

pub returns-then-cell-lt-LEAST_LEVEL : goal.returns-then-cell-lt-LEAST_LEVEL
returns-then-cell-lt-LEAST_LEVEL c =
    let b = back c.args.cell c.ranges.cell.sfits in
    sym (height_silent c.args.cell (less c.args.cell (negsuc 1999) (rw b at c.if-cell-lt-LEAST_LEVEL.true)))

pub returns : goal.returns
returns c =
    let cell = c.args.cell in
    let m = c.min in
    let b = back cell c.ranges.cell.sfits in
    let low = not_less cell (negsuc 1999) (rw b at c.if-cell-lt-LEAST_LEVEL.false) in
    let h = height_cut cell low (m.ensures.value ∙ ap (λ z. int_min z (pos 2000)) b) in
    simp (back m.result m.type_inv, h.0, back (pos (height_at cell)) (omega (arith, h.1))) refl
