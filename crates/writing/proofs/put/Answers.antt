-- `writing::put` meets its contract.
use Rattle.std.proofs.Common.{arith, refl, length}
use Rattle.std.proofs.lemmas.Slice.{put_mid-paste}
use Rattle.writing.proofs.Pages.{put_past, put_full, put_pasted}
use Rattle.writing.proofs.put.Goals as goal

pub returns-then-out-at : goal.returns-then-out-at
returns-then-out-at c = let a = c.args in put_past a.out.now a.at a.bytes.now (omega (arith, c.if-out-at.true))

pub returns-then-out-at-2 : goal.returns-then-out-at-2
returns-then-out-at-2 c =
    let a = c.args in
    put_full a.out.now a.at a.bytes.now (omega (arith, c.if-out-at.false)) (omega (arith, c.if-out-at.false, c.if-out-at-2.true))

pub returns : goal.returns
returns c =
    let a = c.args in
    put_pasted a.out.now a.at a.bytes.now (omega (arith, c.if-out-at.false, c.if-out-at-2.false))
    (put_mid-paste _ _ _ _ a.bytes.now (length a.bytes.now) c.copy_from_slice.ensures.after (omega arith) refl)
