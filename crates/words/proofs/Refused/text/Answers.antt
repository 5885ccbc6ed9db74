-- `words::Refused::text` meets its contract.
use Rattle.std.proofs.Common.{rules, ◌∙◌, Fits, w64}
use Rattle.words.proofs.Notices.{refused_is}
use Rattle.words.proofs.Refused.text.Goals as goal

pub returns : goal.returns
returns c =
    let fault = c.args.self.0 in
    let line : Fits w64 fault.line = search rules in
    c.concatenated.ensures ∙ refused_is fault.refusal fault.line line.fits c.from-number.ensures c.format.ensures.text c.format-2.ensures.text
