-- `report::result_text` meets its contract.
use Rattle.std.proofs.Common.{rules, ◌∙◌, ◌≤◌, length, Fits, w32}
use Rattle.report.proofs.Lines.{result_is}
use Rattle.report.proofs.result_text.Goals as goal

pub returns : goal.returns
returns c =
    let close : Fits w32 c.args.period.close = search rules in
    let short : length c.as_str.result.now ≤ 12 = c.as_str.ensures.fits in
    c.concatenated.ensures ∙ result_is c.args.period short close.fits (c.as_str.ensures.value ∙ c.text-level.ensures) c.format.ensures.text c.verdict.ensures
