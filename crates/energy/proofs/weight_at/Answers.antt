-- `energy::weight_at` meets its contract.
use mathlib.Core.Path.{refl}
use Prim.Native.Nat.{◌-◌}
use native.Mathlib.Omega.{arith}
use lib.IntN.{pos, negsuc}
use Rattle.decibel.proofs.Ints.{ints}
use Rattle.decibel.proofs.Words.{back}
use Rattle.energy.specs.Private.{height_at}
use Rattle.energy.proofs.Order.{less, not_less}
use Rattle.energy.proofs.Cells.{heights_rise, fall_is}
use Rattle.energy.proofs.Rules.{cell_silent, cell_heard}
use Rattle.energy.proofs.weight_at.Goals as goal

pub returns-then-cell-lt-LEAST_LEVEL : goal.returns-then-cell-lt-LEAST_LEVEL
returns-then-cell-lt-LEAST_LEVEL c =
    let b = back c.args.cell c.ranges.cell.sfits in
    cell_silent c.args.cell c.args.loud (less c.args.cell (negsuc 1999) (rw b at c.if-cell-lt-LEAST_LEVEL.true))

pub returns-then-loud-cell : goal.returns-then-loud-cell
returns-then-loud-cell c =
    let cell = c.args.cell in
    let loud = c.args.loud in
    let b = back cell c.ranges.cell.sfits in
    let k = back loud c.ranges.loud.sfits in
    let l = less loud cell (rw (b, k) at c.if-loud-cell.true) in
    cell_heard cell loud (not_less cell (negsuc 1999) (rw b at c.if-cell-lt-LEAST_LEVEL.false)) (omega (arith, heights_rise loud cell (omega (arith, ints)))) c.weight.ensures

-- a cell that is not above the loudest level lies so far below it as their heights differ
pub returns : goal.returns
returns c =
    let cell = c.args.cell in
    let loud = c.args.loud in
    let b = back cell c.ranges.cell.sfits in
    let k = back loud c.ranges.loud.sfits in
    let low = not_less cell (negsuc 1999) (rw b at c.if-cell-lt-LEAST_LEVEL.false) in
    let f = fall_is cell loud low (not_less loud cell (rw (b, k) at c.if-loud-cell.false)) c.requires in
    cell_heard cell loud low (simp (b, k, f.0, back (pos (height_at loud - height_at cell)) (omega (arith, f.1))) refl) c.weight-2.ensures
