-- `request::period_among` meets its contract.
use Rattle.request.proofs.Results.{period_from_lem}
use Rattle.request.proofs.period_among.Goals as goal

pub returns : goal.returns
returns c = period_from_lem c.args.period c.args.levels.now c.min.ensures c.close_among.ensures c.result_from.ensures
