-- `request::is_met` meets its contract.
use borrow.Author.Rules.{rules}
use Rattle.decibel.proofs.Words.{back}
use Rattle.request.proofs.Verdicts.{silent_unmet, met_from}
use Rattle.request.proofs.is_met.Goals as goal

pub returns-in-Silent : goal.returns-in-Silent
returns-in-Silent c = silent_unmet c.args.period c.args.level c.in-Silent.is

pub returns-in-Figure : goal.returns-in-Figure
returns-in-Figure c =
    let a = c.args in
    let l = c.limit_tenths in
    rw (back l.result l.type_inv, back c.in-Figure.r (search rules), l.ensures) (met_from a.period a.level c.in-Figure.r c.in-Figure.is)
