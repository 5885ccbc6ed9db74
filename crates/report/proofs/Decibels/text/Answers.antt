-- `report::Decibels::text` meets its contract.
use Rattle.std.proofs.Common.{rules, ◌∙◌}
use mir.Syntax.{w32}
use mir.Val.{SFits}
use Rattle.report.proofs.Lines.{silent_is, figure_is}
use Rattle.report.proofs.Decibels.text.Goals as goal

pub returns-in-Silent : goal.returns-in-Silent
returns-in-Silent c = c.concatenated.ensures ∙ silent_is c.in-Silent.is

pub returns-in-Figure : goal.returns-in-Figure
returns-in-Figure c =
    let tenths : SFits w32 c.in-Figure.tenths = search rules in
    c.text.ensures ∙ figure_is tenths c.in-Figure.is
