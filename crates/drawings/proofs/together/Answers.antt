-- `drawings::together` meets its contract.
use Rattle.std.proofs.lemmas.Result.{err_from_is_err_and}
use Rattle.drawings.proofs.Periods.{together_refused, together_few, both_periods}
use Rattle.drawings.proofs.together.Goals as goal

pub returns-in_err-limits_check : goal.returns-in_err-limits_check
returns-in_err-limits_check c =
    let p = err_from_is_err_and c.from_residual.result c.from_residual.ensures.1 in
    rw (p.1, p.2) (together_refused _ _ _ c.limits_check.ensures.is c.in_err-limits_check.was)

pub returns-then-cells-entries : goal.returns-then-cells-entries
returns-then-cells-entries c = together_few _ _ _ c.limits_check.ensures.is c.in_ok-limits_check.was c.if-cells-entries.true

pub returns : goal.returns
returns c =
    both_periods _ _ _ c.limits_check.ensures.is c.in_ok-limits_check.was c.if-cells-entries.false c.period_in.ensures c.period_in-2.ensures
