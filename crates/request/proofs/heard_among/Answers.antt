-- `request::heard_among` meets its contract.
use native.Mathlib.Omega.{arith}
use Prim.Native.Nat.{◌+◌, ◌<◌}
use mathlib.Core.Path.{refl, sym, ap, subst}
use lib.ListN.{get_or, length}
use lib.IntN.{pos, negsuc}
use lib.Signed.{le_z}
use Rattle.decibel.proofs.Words.{back}
use Rattle.request.proofs.Hearing.{HeardTo, heard_none, heard_more, heard_all}
use Rattle.request.proofs.heard_among.Goals as goal

pub loop-i-init : goal.loop-i-init
loop-i-init c = heard_none c.args.places.now c.args.levels.now

pub loop-i-preserved : goal.loop-i-preserved
loop-i-preserved c =
    let v = c.loop-i in
    let levels = c.args.levels.now in
    let within : v.i < length c.args.places.now = omega (arith, c.loop-i-test.true, c.min-i-end.ensures) in
    let sounding : v.i < length levels = omega (arith, c.loop-i-test.true, c.min-i-end.ensures) in
    subst (HeardTo c.args.places.now levels (v.i + 1)) (sym c.mark.ensures)
    (heard_more c.args.places.now levels v.i v.heard (get_or c.args.places.now c.loop-i.i 0) _ within sounding v.invariant refl
    (sym (ap (le_z (negsuc 1999)) (back (get_or levels v.i (pos 0)) c.mark-arg-1.given))))

pub returns : goal.returns
returns c = heard_all c.args.places.now c.args.levels.now c.loop-i.i c.loop-i.heard (omega (arith, c.loop-i-test.false, c.loop-i.auto.i-end, c.min-i-end.ensures)) c.loop-i.invariant
