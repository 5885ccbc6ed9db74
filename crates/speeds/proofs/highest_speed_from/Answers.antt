-- `speeds::highest_speed_from` meets its contract.
use Rattle.std.proofs.Common.{arith, sym, ◌∙◌, take}
use Rattle.std.proofs.lemmas.List.{take_min, length-take}
use Rattle.decibel.proofs.Words.{back}
use Rattle.request.proofs.Cells.{back16}
use Rattle.speeds.specs.Speeds.{highest_from}
use Rattle.speeds.proofs.Among.{outside_refused, search_answered, answered_number}
use Rattle.speeds.proofs.highest_speed_from.Goals as goal

pub returns-then-entry-eq0 : goal.returns-then-entry-eq0
returns-then-entry-eq0 c =
    let a = c.args in
    let rows = c.min-rows.ensures ∙ sym (length-take 96 a.cells.now) in
    let answer = outside_refused (take 96 a.cells.now) a.entry a.tenths a.train a.period a.limit (omega (arith, length-take 96 a.cells.now)) (λ h. omega (arith, rows, h.0, h.1, c.then-entry-eq0.either)) in
    record { answered = answer; number = answered_number answer }

pub returns : goal.returns
unfolding highest_from
returns c =
    let a = c.args in
    let cells = a.cells.now in
    let rows = c.min-rows.ensures ∙ sym (length-take 96 cells) in
    let found = rw (c.min-rows.ensures, take_min, back a.limit c.ranges.limit.sfits, back16 a.tenths c.ranges.tenths.sfits) at c.highest.ensures in
    let answer = search_answered (take 96 cells) a.entry a.tenths a.train a.period a.limit (omega (arith, length-take 96 cells)) (omega (arith, c.if-entry-eq0.false)) (omega (arith, rows, c.if-rows-entry.false)) found c.ok_or.ensures.value in
    record { answered = answer; number = answered_number answer }
