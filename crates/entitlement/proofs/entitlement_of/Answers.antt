-- `entitlement::entitlement_of` meets its contract: 23 of the lines before or after, or what their levels give.
use mathlib.Core.Path.{refl}
use Rattle.std.proofs.lemmas.Result.{err_from_is_err_and}
use Rattle.figures.specs.Refusal.{first_refused, check_of}
use Rattle.entitlement.proofs.Answers.{refused_answer_lem, accepted-answer}
use Rattle.entitlement.proofs.entitlement_of.Goals as goal

pub returns-in_err-old : goal.returns-in_err-old
unfolding first_refused check_of
returns-in_err-old c =
    let p = err_from_is_err_and c.from_residual.result c.from_residual.ensures.1 in
    let all = refused_answer_lem _ _ c.layout_report_of-old.ensures.few c.layout_report_of-new.ensures.few c.in_err-old.ensures.answer c.layout_report_of-new.ensures.answer refl refl in
    rw (p.1, p.2) (record { answered = all.0; number = all.1 })

pub returns-in_err-new : goal.returns-in_err-new
unfolding first_refused check_of
returns-in_err-new c =
    let p = err_from_is_err_and c.from_residual-in_err-new.result c.from_residual-in_err-new.ensures.1 in
    let all = refused_answer_lem _ _ c.layout_report_of-old.ensures.few c.layout_report_of-new.ensures.few c.in_ok-old.ensures.answer c.in_err-new.ensures.answer refl refl in
    rw (p.1, p.2) (record { answered = all.0; number = all.1 })

pub returns : goal.returns
returns c =
    let all = accepted-answer _ _ c.layout_report_of-old.ensures.few c.layout_report_of-new.ensures.few c.in_ok-old.ensures.answer c.in_ok-new.ensures.answer refl refl c.entitlement_by.ensures in
    record { answered = all.0; number = all.1 }
