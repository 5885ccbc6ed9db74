-- `request::heard_segments` meets its contract.
use native.Mathlib.Omega.{arith}
use Prim.Native.Nat.{◌+◌, ◌<◌}
use mathlib.Core.Path.{sym, ap, subst}
use lib.ListN.{get_or, length}
use lib.IntN.{pos, negsuc}
use lib.Signed.{le_z}
use Rattle.decibel.proofs.Words.{back}
use Rattle.study.specs.declared.Entry.{Entry}
use Rattle.study.specs.Plan.{no_entry}
use Rattle.std.proofs.lemmas.List.{get_or-map, length-map}
use Rattle.request.specs.Request.{places_of}
use Rattle.request.proofs.Hearing.{HeardTo, heard_none, heard_more, heard_all}
use Rattle.request.proofs.heard_segments.Goals as goal

pub loop-i-init : goal.loop-i-init
loop-i-init c = heard_none (places_of c.args.entries.now) c.args.levels.now

pub loop-i-preserved : goal.loop-i-preserved
loop-i-preserved c =
    let v = c.loop-i in
    let levels = c.args.levels.now in
    let within : v.i < length c.args.entries.now = omega (arith, c.loop-i-test.true, c.min-i-end.ensures) in
    let sounding : v.i < length levels = omega (arith, c.loop-i-test.true, c.min-i-end.ensures) in
    subst (HeardTo (places_of c.args.entries.now) levels (v.i + 1)) (sym c.mark.ensures)
    (heard_more (places_of c.args.entries.now) levels v.i v.heard (get_or c.args.entries.now c.loop-i.i no_entry).segment _ (rw (length-map c.args.entries.now (λ (e : Entry). e.segment)) within) sounding v.invariant (get_or-map (λ (e : Entry). e.segment) c.args.entries.now c.loop-i.i no_entry 0 within)
    (sym (ap (le_z (negsuc 1999)) (back (get_or levels v.i (pos 0)) c.mark-arg-1.given))))

pub returns : goal.returns
returns c = heard_all (places_of c.args.entries.now) c.args.levels.now c.loop-i.i c.loop-i.heard (omega (arith, c.loop-i-test.false, c.loop-i.auto.i-end, c.min-i-end.ensures, length-map c.args.entries.now (λ (e : Entry). e.segment))) c.loop-i.invariant
