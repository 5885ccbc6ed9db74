-- `request::result_from` meets its contract.
use Rattle.std.proofs.Common.{◌∙◌}
use Rattle.request.proofs.Results.{result_from_lem, byte_is}
use Rattle.request.proofs.result_from.Goals as goal

pub returns : goal.returns
returns c = result_from_lem c.args.period c.args.close c.total_of-total.ensures.is (c.from.ensures ∙ byte_is _) c.is_met.ensures
