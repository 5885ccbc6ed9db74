-- `emission::rolling::rolling_figure` meets its contract.
use Rattle.std.proofs.Common.{arith, lit<}
use Rattle.figures.proofs.Kept.{train_ranged}
use Rattle.figures.proofs.Signs.{exactly_read, read_up}
use Rattle.emission.proofs.RollingFigures.{rolling_is}
use Rattle.emission.proofs.rolling.rolling_figure.Goals as goal

pub rolling_at-requires : goal.rolling_at-requires
rolling_at-requires c =
    let g = train_ranged _ c.args.kept.kept in
    let e = read_up (lit< tt) g.row c.natural.ensures in (omega (arith, e, g.row.least), omega (arith, e, g.row.most))

pub returns : goal.returns
returns c =
    let g = train_ranged _ c.args.kept.kept in
    exactly_read (rolling_is c.args.kept.train g (read_up (lit< tt) g.row c.natural.ensures) c.rolling_at.ensures)
