-- `speeds::is_below` meets its contract.
use borrow.Author.Rules.{rules}
use Rattle.speeds.proofs.Below.{figure_below}
use Rattle.speeds.proofs.Trials.{wide_back, bound_back}
use Rattle.speeds.proofs.is_below.Goals as goal

pub returns-in-Figure : goal.returns-in-Figure
returns-in-Figure c =
    rw (c.from.ensures, c.from-in-Figure.ensures, wide_back c.in-Figure.tenths (search rules), bound_back c.args.limit c.ranges.limit.sfits) (figure_below c.args.limit c.in-Figure.is)
