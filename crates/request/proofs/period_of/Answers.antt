-- `request::period_of` meets its contract.
use Rattle.request.proofs.Answers.{mark_allowed}
use Rattle.request.proofs.Results.{period_from_lem}
use Rattle.request.proofs.period_of.Goals as goal

pub returns : goal.returns
returns c =
    record {
      is = period_from_lem c.args.period c.args.levels.now c.min.ensures c.close_segments.ensures c.result_from.ensures;
      allowed = mark_allowed c.args.levels.now;
    }
