-- `entitlement::report_of` meets its contract: what the request answers of its study.
use Rattle.std.proofs.Common.{sym, rules, arith}
use Rattle.std.proofs.lemmas.Result.{err_from_is_err_and}
use Rattle.entitlement.proofs.Reports.{study_reports}
use Rattle.entitlement.proofs.report_of.Goals as goal

pub returns-in_err-answer-clause-answer : goal.returns-in_err-answer-clause-answer
returns-in_err-answer-clause-answer c =
    let p = err_from_is_err_and c.from_residual.result c.from_residual.ensures.1 in
    rw (p.1, p.2, c.in-Some.is) (sym (study_reports c.in_err-answer.ensures.answered c.entries-total.ensures.is (search (rules, arith))))

pub returns-clause-answer : goal.returns-clause-answer
returns-clause-answer c = rw (c.in-Some.is, c.reported-2.ensures) (sym (study_reports c.in_ok-answer.ensures.answered c.entries-total.ensures.is (search (rules, arith))))
