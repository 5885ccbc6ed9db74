-- `breakdown::segment_lines` meets its contract.
use Rattle.std.proofs.Common.{◌∙◌, ◌≤◌, length, ap, arith}
use mathlib.Core.List.{List, ◌++◌}
use Prim.Native.Nat.{ℕ, ◌+◌}
use Rattle.breakdown.specs.Breakdown.{segment_line}
use Rattle.breakdown.proofs.Parts.{no_lines, line_more, segment_at_place, segments_all}
use Rattle.breakdown.proofs.segment_lines.Goals as goal

pub loop-k-init : goal.loop-k-init
loop-k-init c = no_lines (segment_line c.args.study.now) c.args.lines.now.bytes

pub push_str-requires : goal.push_str-requires
push_str-requires c =
    let line : length c.as_str.result.now ≤ 256 = c.as_str.ensures.fits in
    let most : length c.segments-segment-items.result.now ≤ 24 = c.segments-segment-items.ensures.most in
    let room : length c.args.lines.now.bytes + 6144 ≤ 30816 = c.requires in
    let ends : length c.loop-k.lines.bytes + length c.as_str.result.now ≤ 30816 = omega (arith, line, most, room, c.loop-k-test.true, c.loop-k.invariant.room) in
    (omega arith, ends)

pub loop-k-preserved : goal.loop-k-preserved
loop-k-preserved c =
    let fits : length c.as_str.result.now ≤ 256 = c.as_str.ensures.fits in
    let line = c.as_str.ensures.value ∙ c.segment_line.ensures ∙ segment_at_place c.args.study.now c.segments-segment-items.ensures.is c.loop-k.k in
    line_more c.loop-k.invariant fits line c.push_str.ensures.bytes

pub returns-clause-is : goal.returns-clause-is
returns-clause-is c =
    c.loop-k.invariant.is
    ∙ ap (λ (xs : List ℕ). c.args.lines.now.bytes ++ xs) (segments_all c.args.study.now c.segments-segment-items.ensures.is c.loop-k.k c.loop-k.auto.k-end c.loop-k-test.false)

pub returns-clause-room : goal.returns-clause-room
returns-clause-room c =
    let most : length c.segments-segment-items.result.now ≤ 24 = c.segments-segment-items.ensures.most in
    let all : length c.loop-k.lines.bytes ≤ length c.args.lines.now.bytes + 6144 = omega (arith, most, c.loop-k.auto.k-end, c.loop-k.invariant.room) in
    all
