-- `report::Outcome::text` meets its contract.
use Rattle.std.proofs.Common.{rules, ◌∙◌, ◌≤◌, length, Fits, w64}
use Rattle.report.proofs.Lines.{answer_is, refusal_is}
use Rattle.report.proofs.Outcome.text.Goals as goal

pub returns-in-Ok : goal.returns-in-Ok
returns-in-Ok c =
    let day : length c.as_str.result.now ≤ 27 = c.as_str.ensures.fits in
    let night : length c.as_str-in-Ok.result.now ≤ 27 = c.as_str-in-Ok.ensures.fits in
    c.concatenated.ensures
    ∙ answer_is c.args.self c.in-Ok.results c.in-Ok.is day night (c.as_str.ensures.value ∙ c.result_text-day.ensures) (c.as_str-in-Ok.ensures.value ∙ c.result_text-night.ensures)

pub returns-in-Err : goal.returns-in-Err
returns-in-Err c =
    let line : Fits w64 c.in-Err.fault.line = search rules in
    c.concatenated-in-Err.ensures ∙ refusal_is c.args.self c.in-Err.fault c.in-Err.is line.fits (c.as_str-in-Err.ensures.value ∙ c.text-refused.ensures)
