-- `railnoise_requests_c::report_of` meets its contract.
use Rattle.std.proofs.Common.{rules, refl}
use Rattle.std.proofs.lemmas.Result.{err_from_is_err_and}
use Rattle.text.proofs.EnoughCells.{text_refused, text_answered}
use Rattle.railnoise_requests_c.proofs.Texts.{none_gives, text_gives}
use Rattle.railnoise_requests_c.proofs.report_of.Goals as goal

pub returns-in_default : goal.returns-in_default
returns-in_default c = rw (c.in_default.is, c.reported.ensures) none_gives

pub returns-in_err-results : goal.returns-in_err-results
returns-in_err-results c =
    let p = err_from_is_err_and c.from_residual.result c.from_residual.ensures.1 in
    rw (c.in-Some.is, p.1, p.2) (text_refused c.in-Some.text.now c.text_levels.ensures.answered refl c.args.place (search rules) c.in_err-results.was)

pub returns : goal.returns
returns c =
    let q = c.text_levels.ensures.answered in
    rw (c.in-Some.is, c.reported-2.ensures) (text_gives c.in-Some.text.now (rw (text_answered c.in-Some.text.now q refl c.args.place (search rules) c.in_ok-results.was) at q) refl)
