-- `words::Notice::text` meets its contract.
use Rattle.std.proofs.Common.{rules, ◌∙◌, Fits, w64}
use Rattle.words.proofs.Notices.{notice_is}
use Rattle.words.proofs.Notice.text.Goals as goal

pub returns : goal.returns
returns c =
    let fault = c.args.self.0 in
    let line : Fits w64 fault.line = search rules in
    c.concatenated.ensures ∙ notice_is fault.refusal fault.line line.fits (c.as_str.ensures.value ∙ c.text-refused.ensures) c.words-words.ensures
