-- `railnoise_requests_c::entitled` meets its contract.
use Rattle.std.proofs.Common.{rules}
use Rattle.std.proofs.lemmas.Result.{err_from_is_err_and}
use Rattle.figures.specs.Periods.{in_period}
use Rattle.railnoise_requests_c.proofs.Calls.{refused_first, refused_second, refused_third, refused_fourth, all_given}
use Rattle.railnoise_requests_c.proofs.entitled.Goals as goal

pub returns-in_err-first : goal.returns-in_err-first
returns-in_err-first c =
    let p = err_from_is_err_and c.from_residual.result c.from_residual.ensures.1 in
    rw p.1 (refused_first _ _ _ _ _ (rw p.2 c.in_err-first.ensures))

pub returns-in_err-second : goal.returns-in_err-second
returns-in_err-second c =
    let p = err_from_is_err_and c.from_residual-in_err-second.result c.from_residual-in_err-second.ensures.1 in
    rw p.1 (refused_second _ _ _ _ c.in_ok-first.ensures _ (rw p.2 c.in_err-second.ensures))

pub returns-in_err-third : goal.returns-in_err-third
returns-in_err-third c =
    let p = err_from_is_err_and c.from_residual-in_err-third.result c.from_residual-in_err-third.ensures.1 in
    rw p.1 (refused_third _ _ _ _ c.in_ok-first.ensures c.in_ok-second.ensures _ (rw p.2 c.in_err-third.ensures))

pub returns-in_err-fourth : goal.returns-in_err-fourth
returns-in_err-fourth c =
    let p = err_from_is_err_and c.from_residual-in_err-fourth.result c.from_residual-in_err-fourth.ensures.1 in
    rw p.1 (refused_fourth _ _ _ _ c.in_ok-first.ensures c.in_ok-second.ensures c.in_ok-third.ensures _ (rw p.2 c.in_err-fourth.ensures))

pub returns : goal.returns
unfolding in_period
returns c = all_given _ _ _ _ c.in_ok-first.ensures c.in_ok-second.ensures c.in_ok-third.ensures c.in_ok-fourth.ensures (search rules)
