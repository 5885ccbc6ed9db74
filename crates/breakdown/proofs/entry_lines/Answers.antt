-- `breakdown::entry_lines` meets its contract.
use Rattle.std.proofs.Common.{◌∙◌, ◌≤◌, length, ap, arith}
use mathlib.Core.List.{List, ◌++◌}
use Prim.Native.Nat.{ℕ, ◌+◌}
use Rattle.decibel.proofs.Words.{back}
use Rattle.breakdown.specs.Breakdown.{entry_line}
use Rattle.breakdown.proofs.Parts.{no_lines, line_more, entry_at_place, entries_all}
use Rattle.breakdown.proofs.entry_lines.Goals as goal

pub loop-k-init : goal.loop-k-init
loop-k-init c = no_lines (entry_line c.args.study.now c.args.cells.now) c.args.lines.now.bytes

pub push_str-requires : goal.push_str-requires
push_str-requires c =
    let line : length c.as_str.result.now ≤ 256 = c.as_str.ensures.fits in
    let most : length c.entries-entries.result.now ≤ 96 = c.entries-entries.ensures.most in
    let room : length c.args.lines.now.bytes + 24576 ≤ 30816 = c.requires in
    let ends : length c.loop-k.lines.bytes + length c.as_str.result.now ≤ 30816 = omega (arith, line, most, room, c.loop-k-test.true, c.loop-k.invariant.room) in
    (omega arith, ends)

pub loop-k-preserved : goal.loop-k-preserved
loop-k-preserved c =
    let day = back c.cell_at-day.result c.cell_at-day.type_inv ∙ c.cell_at-day.ensures in
    let night = back c.cell_at-night.result c.cell_at-night.type_inv ∙ c.cell_at-night.ensures in
    let fits : length c.as_str.result.now ≤ 256 = c.as_str.ensures.fits in
    let line = c.as_str.ensures.value ∙ c.text.ensures ∙ entry_at_place c.args.study.now c.entries-entries.ensures.is c.loop-k.k c.args.cells.now c.number_of.ensures day night in
    line_more c.loop-k.invariant fits line c.push_str.ensures.bytes

pub returns-clause-is : goal.returns-clause-is
returns-clause-is c =
    c.loop-k.invariant.is
    ∙ ap (λ (xs : List ℕ). c.args.lines.now.bytes ++ xs) (entries_all c.args.study.now c.entries-entries.ensures.is c.loop-k.k c.args.cells.now c.loop-k.auto.k-end c.loop-k-test.false)

pub returns-clause-room : goal.returns-clause-room
returns-clause-room c =
    let most : length c.entries-entries.result.now ≤ 96 = c.entries-entries.ensures.most in
    let all : length c.loop-k.lines.bytes ≤ length c.args.lines.now.bytes + 24576 = omega (arith, most, c.loop-k.auto.k-end, c.loop-k.invariant.room) in
    all
