-- `writing::concatenated` meets its contract.
use Rattle.std.proofs.Common.{arith, Bor, List, ℕ, [], ◌≡◌, ◌+◌, ◌<◌, ◌≤◌, length, get_or}
use Rattle.writing.proofs.Concatenation.{put_none, put_more, put_full, put_all}
use Rattle.writing.proofs.concatenated.Goals as goal

abbrev no_part : Bor (List ℕ)
no_part = record { ref_ptr = (0, 0); now = [] }

pub loop-part-init : goal.loop-part-init
loop-part-init g c = put_none _ _ _ _ c.new-text.ensures

pub returns-then-remaining_capacity-part : goal.returns-then-remaining_capacity-part
returns-then-remaining_capacity-part g c =
    let room : c.remaining_capacity.result + length c.loop-part.text.bytes ≡ g.row.N = c.remaining_capacity.ensures in
    let less : c.remaining_capacity.result < length (get_or c.args.parts.now c.loop-part.part-index no_part).now = c.if-remaining_capacity-part.true in
    put_full _ _ _ c.loop-part.invariant no_part c.loop-part-test.true (omega (arith, room, less)) (omega (arith, room))

pub loop-part-preserved : goal.loop-part-preserved
loop-part-preserved g c =
    let room : c.remaining_capacity.result + length c.loop-part.text.bytes ≡ g.row.N = c.remaining_capacity.ensures in
    let fits : length (get_or c.args.parts.now c.loop-part.part-index no_part).now ≤ c.remaining_capacity.result = c.if-remaining_capacity-part.false in
    put_more _ _ _ c.loop-part.invariant no_part c.loop-part-test.true (omega (arith, room, fits)) c.push_str.ensures.bytes

pub returns : goal.returns
returns g c = put_all _ _ _ c.loop-part.invariant c.loop-part-test.false
