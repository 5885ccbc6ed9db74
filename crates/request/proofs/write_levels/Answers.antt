-- `request::write_levels` meets its contract.
use mathlib.Core.Path.{◌≡◌}
use native.Mathlib.Numerals.{add-one}
use native.Mathlib.Omega.{arith}
use lib.IntN.{pos}
use lib.ListN.{length, get_or, length-set}
use lib.Seq.{paste-suc}
use Rattle.decibel.proofs.Words.{back}
use Rattle.request.proofs.Writing.{no_room, all_written}
use Rattle.request.proofs.write_levels.Goals as goal

pub returns-then-cells-at : goal.returns-then-cells-at
returns-then-cells-at c = let a = c.args in no_room a.levels.now a.cells.now a.at (omega (arith, c.if-cells-at.true))

pub returns-then-cells-at-2 : goal.returns-then-cells-at-2
returns-then-cells-at-2 c = let a = c.args in no_room a.levels.now a.cells.now a.at (omega (arith, c.if-cells-at.false, c.if-cells-at-2.true))

pub loop-i-preserved : goal.loop-i-preserved
loop-i-preserved c =
    let v = c.loop-i in
    let a = c.args in
    let e = back (get_or a.levels.now v.i (pos 0)) c.cells-1.given in (
      simp length-set v.invariant.0,
      rw (e, add-one, v.invariant.1) (paste-suc a.cells.now a.at a.levels.now v.i (pos 0) (omega (arith, c.if-cells-at.false, c.if-cells-at-2.false)) c.loop-i-test.true),
    )

pub returns : goal.returns
returns c =
    let v = c.loop-i in
    let a = c.args in
    let e : v.i ≡ length a.levels.now = omega (arith, c.loop-i-test.false, v.auto.i-end) in
    all_written a.levels.now a.cells.now a.at (omega (arith, c.if-cells-at.false, c.if-cells-at-2.false)) (rw e at v.invariant.1)
