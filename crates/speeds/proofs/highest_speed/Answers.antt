-- `speeds::highest_speed` meets its contract: the levels of the study, of which the period's are searched.
use Rattle.std.proofs.Common.{arith, ap, length}
use Rattle.decibel.proofs.Words.{back}
use Rattle.request.proofs.Cells.{back16}
use Rattle.speeds.proofs.OfPlan.{outside_refused, answered_number}
use Rattle.speeds.proofs.OfStudy.{study_answered}
use Rattle.speeds.proofs.highest_speed.Goals as goal

pub returns-then-entry-eq0 : goal.returns-then-entry-eq0
returns-then-entry-eq0 c =
    let a = c.args in
    let es = c.entries-entries.ensures in
    let total = ap length es.is in
    let answer = outside_refused a.study.now a.entry a.period a.limit (omega (arith, total, es.most)) (λ h. omega (arith, total, h.0, h.1, c.then-entry-eq0.either)) in
    record { answered = answer; number = answered_number answer }

pub returns : goal.returns
returns c =
    let a = c.args in
    let es = c.entries-entries.ensures in
    let total = ap length es.is in
    let t = c.tenths_at-tenths in
    let found = rw (back16 t.result t.type_inv, back a.limit c.ranges.limit.sfits, es.is) at c.highest_speed_from.ensures.answered in
    let tenths = rw (es.is, c.segments.ensures.is) at t.ensures in
    let answer = study_answered a.study.now a.entry a.period a.limit (omega (arith, total, es.most)) (omega (arith, c.if-entry-eq0.false)) (omega (arith, total, c.if-total-entry.false)) c.levels.ensures.answered (omega arith) (rw es.is at c.first_cell-from.ensures) tenths found in
    record { answered = answer; number = answered_number answer }
