-- `request::levels_from` meets its contract: 23, 24, or both periods' levels written and their results.
use borrow.Author.Tests.{eqb-true, eqb-false}
use Rattle.std.proofs.Common.{arith, refl, sym, length, ◌+◌, ◌≤◌}
use Rattle.figures.specs.declared.Refusal.TheVariants.{NoEntry, FewCells}
use Rattle.request.proofs.Writing.{as_pasted}
use Rattle.request.proofs.Answers.{no_entries, few_cells, enough_cells, refused_from, accepted_from, answered_from}
use Rattle.request.proofs.levels_from.Goals as goal

pub returns-then-is_empty : goal.returns-then-is_empty
returns-then-is_empty c =
    let a = c.args in
    let all = answered_from (refused_from a.day.now a.night.now a.places.now a.close.now a.cells.now NoEntry (no_entries _ _ _ (eqb-true _ _ (sym c.if-is_empty.ensures))) refl) in
    record { answered = all.0; number = all.1 }

pub returns-then-cells-day : goal.returns-then-cells-day
returns-then-cells-day c =
    let a = c.args in
    let all = answered_from (refused_from a.day.now a.night.now a.places.now a.close.now a.cells.now FewCells (few_cells _ _ _ (eqb-false _ _ (sym c.if-is_empty.ensures)) (omega (arith, c.if-cells-day.true))) refl) in
    record { answered = all.0; number = all.1 }

pub returns-then-cells-day-2 : goal.returns-then-cells-day-2
returns-then-cells-day-2 c =
    let a = c.args in
    let all = answered_from (refused_from a.day.now a.night.now a.places.now a.close.now a.cells.now FewCells (few_cells _ _ _ (eqb-false _ _ (sym c.if-is_empty.ensures)) (omega (arith, c.if-cells-day.false, c.if-cells-day-2.true))) refl) in
    record { answered = all.0; number = all.1 }

pub returns : goal.returns
returns c =
    let a = c.args in
    let room : length a.day.now + length a.night.now ≤ length a.cells.now = omega (arith, c.if-cells-day.false, c.if-cells-day-2.false) in
    let all =
    answered_from
    (accepted_from a.day.now a.night.now a.places.now a.close.now a.cells.now (enough_cells _ _ _ (eqb-false _ _ (sym c.if-is_empty.ensures)) room) (as_pasted a.day.now a.cells.now 0 (omega (arith, room)) c.write_levels.ensures)
    (as_pasted a.night.now c.write_levels.new.cells (length a.day.now) (omega (arith, room, c.write_levels.auto.cells)) c.write_levels-2.ensures) c.period_among.ensures c.period_among-2.ensures) in
    record { answered = all.0; number = all.1 }
