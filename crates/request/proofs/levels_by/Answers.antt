-- `request::levels_by` meets its contract: 23, 24, or both periods' levels written and their results.
use Rattle.std.proofs.Common.{arith, rules, refl, ◌∙◌, ap, ℤ, pos, get_or, ◌≡◌, List, drop, length, ◌+◌, ◌≤◌}
use Rattle.decibel.proofs.Words.{back}
use Rattle.figures.specs.declared.Periods.{Periods}
use Rattle.figures.specs.declared.Period.TheVariants.{Day, Night}
use Rattle.figures.specs.declared.Refusal.TheVariants.{NoEntry, FewCells}
use Rattle.study.specs.Plan.{no_entry}
use Rattle.request.specs.Request.{entry_cells, cells_from, tenths_of, marks_of, places_of, period_from}
use Rattle.request.proofs.Answers.{no_entries, few_cells, enough_cells, laid_from, entries_check, entries_refused, entries_number}
use Rattle.request.proofs.Laying.{laying_none, laying_more, laying_all, day_part, night_part}
use Rattle.request.proofs.Cells.{back16}
use Rattle.request.proofs.levels_by.Goals as goal

pub returns-then-total-eq0 : goal.returns-then-total-eq0
returns-then-total-eq0 c =
    let a = entries_refused c.args.added.now c.args.entries.now c.args.cells.now NoEntry (no_entries _ _ _ c.if-total-eq0.true) in
    record { answered = a; number = entries_number _ _ _ a }

pub returns-then-cells-total : goal.returns-then-cells-total
returns-then-cells-total c =
    let a = entries_refused c.args.added.now c.args.entries.now c.args.cells.now FewCells (few_cells _ _ _ c.if-total-eq0.false (omega (arith, c.if-cells-total.true))) in
    record { answered = a; number = entries_number _ _ _ a }

pub loop-at-init : goal.loop-at-init
loop-at-init c = laying_none _ _ _ (omega (arith, c.if-cells-total.false))

pub loop-at-preserved : goal.loop-at-preserved
unfolding entry_cells
loop-at-preserved c =
    let r = c.entry_cells-levels in
    let t = c.tenths_at in
    let e = get_or c.args.entries.now c.loop-at.at no_entry in
    let is : r.result ≡ entry_cells (get_or (tenths_of c.args.added.now) e.segment (pos 0)) e.train = r.ensures ∙ rw (back16 t.result t.type_inv, t.ensures) refl in
    laying_more _ _ _ (omega (arith, c.if-cells-total.false)) c.loop-at-test.true c.loop-at.invariant refl
    (back r.result.day (search rules) ∙ ap (λ (p : Periods ℤ). p.day) is)
    (back r.result.night (search rules) ∙ ap (λ (p : Periods ℤ). p.night) is)

pub returns : goal.returns
returns c =
    let added = c.args.added.now in
    let es = c.args.entries.now in
    let before = c.args.cells.now in
    let room : length es + length es ≤ length before = omega (arith, c.if-cells-total.false) in
    let all = laying_all added es before room (omega (arith, c.loop-at-test.false, c.loop-at.auto.at-end)) c.loop-at.invariant in
    let rest = drop (length (cells_from Day added es) + length (cells_from Night added es)) before in
    let answer =
    laid_from (cells_from Day added es) (cells_from Night added es) (places_of es) (marks_of added) before (entries_check added es before ∙ enough_cells _ _ _ c.if-total-eq0.false room) all
    (c.period_of.ensures.is ∙ ap (λ (cells : List ℤ). period_from Day cells (places_of es) (marks_of added)) (day_part added es before rest all))
    (c.period_of-2.ensures.is ∙ ap (λ (cells : List ℤ). period_from Night cells (places_of es) (marks_of added)) (night_part added es before rest all _ (omega arith))) in
    record { answered = answer; number = entries_number added es before answer }
