-- `writing::Tenths::text` meets its contract.
use Rattle.std.proofs.Common.{rules, ◌∙◌}
use mir.Syntax.{w32}
use mir.Val.{SFits}
use Rattle.writing.proofs.Lengths.{figure_is}
use Rattle.writing.proofs.Tenths.text.Goals as goal

pub returns : goal.returns
returns c =
    let tenths : SFits w32 c.args.self.0 = search rules in
    c.concatenated.ensures ∙ figure_is c.args.self.0 tenths c.sign.ensures c.unsigned_abs-size.ensures.value c.format.ensures.text c.format-2.ensures.text
