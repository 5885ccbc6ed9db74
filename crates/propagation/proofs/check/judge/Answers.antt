-- `propagation::check::judge` meets its contract.
use Rattle.std.proofs.Common.{sym}
use Rattle.std.proofs.lemmas.Result.{err_from_is_err_and}
use Rattle.propagation.specs.Private.{Judges}
use Rattle.propagation.proofs.Chain.{range_refused}
use Rattle.propagation.proofs.check.judge.Goals as goal

pub returns-in_err-range_check : goal.returns-in_err-range_check
unfolding Judges
returns-in_err-range_check c =
    let p = err_from_is_err_and c.from_residual.result c.from_residual.ensures.1 in
    rw (p.1, p.2) (range_refused _ (sym c.in_err-range_check.ensures.is))
