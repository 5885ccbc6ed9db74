-- `text_speeds::text_speed` meets its contract.
use Rattle.std.proofs.Common.{◌+◌, ◌-◌, ◌≤◌, ◌<◌, length, take, drop, arith, rules, refl}
use Rattle.std.proofs.lemmas.Result.{err_from_is_err_and}
use Rattle.decibel.proofs.Words.{back}
use Rattle.request.proofs.Cells.{back16}
use Rattle.text_speeds.proofs.Answered.{text_refused, zero_told, past_told, own_within, emitted, speed_told, text_numbered}
use Rattle.text_speeds.proofs.text_speed.Goals as goal
use Rattle.text_speeds.proofs.text_speed.Goals.{After-first_cell-from}

pub returns-in_err-text_levels : goal.returns-in_err-text_levels
returns-in_err-text_levels c =
    let p = err_from_is_err_and c.from_residual.result c.from_residual.ensures.1 in
    let a = text_refused _ c.args.entry c.args.period c.args.limit refl c.in_err-text_levels.ensures.answered in
    rw (p.1, p.2) (record { answered = a; number = text_numbered a })

pub returns-then-entry-eq0 : goal.returns-then-entry-eq0
returns-then-entry-eq0 c =
    let a = zero_told _ c.args.entry c.args.period c.args.limit refl c.in_ok-text_levels.ensures.answered c.if-entry-eq0.true in
    rw c.from-outside.ensures (record { answered = a; number = text_numbered a })

pub returns-in_default : goal.returns-in_default
returns-in_default c =
    let a = past_told _ c.args.entry c.args.period c.args.limit refl c.in_ok-text_levels.ensures.answered c.if-entry-eq0.false c.train_in.ensures (search rules) in
    rw c.from-outside.ensures (record { answered = a; number = text_numbered a })

pub returns : goal.returns
returns c =
    let added = c.added_to-tenths in
    let a = speed_told _ c.args.entry c.args.period c.args.limit refl c.in_ok-text_levels.ensures.answered c.if-entry-eq0.false c.train_in.ensures c.in_default-Some.is-1 c.first_cell-from.ensures
    (back _ (search rules)) added.ensures
    (rw (back16 added.result added.type_inv, back c.args.limit c.ranges.limit.sfits) at c.highest_speed_from.ensures.answered)
    (search rules) in
    record { answered = a; number = text_numbered a }

-- the period's cells are among those that were lent, and the entry's among them
cells_within : (c : After-first_cell-from) → (c.first_cell-from.result + c.train_in.result.0 ≤ 192) × (c.args.entry - 1 < length (take (c.first_cell-from.result + c.train_in.result.0 - c.first_cell-from.result) (drop c.first_cell-from.result c.text_levels.new.cells)))
cells_within c = own_within c.in_ok-text_levels.ensures.answered refl c.if-entry-eq0.false c.train_in.ensures c.in_default-Some.is-1 c.args.period c.first_cell-from.ensures

pub overflow_add-own : goal.overflow_add-own
overflow_add-own c =
    let within = cells_within (goal.at.overflow_add-own c).After-first_cell-from in
    omega (arith, within.0)

pub offset_bounds-cells-from : goal.offset_bounds-cells-from
offset_bounds-cells-from c =
    let within = cells_within (goal.at.offset_bounds-cells-from c).After-first_cell-from in
    omega (arith, within.0)

pub slice_bounds-own-end : goal.slice_bounds-own-end
slice_bounds-own-end c =
    let within = cells_within (goal.at.slice_bounds-own-end c).After-first_cell-from in
    omega (arith, within.0, c.text_levels.auto.cells)

pub offset_bounds-own-entry : goal.offset_bounds-own-entry
offset_bounds-own-entry c =
    let within = cells_within (goal.at.offset_bounds-own-entry c).After-first_cell-from in
    omega (arith, c.ranges.entry.fits, within.1)

pub bounds-own-entry : goal.bounds-own-entry
bounds-own-entry c =
    let within = cells_within (goal.at.bounds-own-entry c).After-first_cell-from in
    within.1

pub added_to-tenths-requires : goal.added_to-tenths-requires
added_to-tenths-requires c =
    emitted c.in_ok-text_levels.ensures.answered refl c.if-entry-eq0.false c.train_in.ensures c.in_default-Some.is-1 c.args.period c.first_cell-from.ensures (back _ (search rules))
