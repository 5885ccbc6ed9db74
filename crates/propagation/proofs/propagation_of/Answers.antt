-- `propagation::propagation_of` meets its contract.
use Rattle.std.proofs.Common.{rules}
use Rattle.propagation.proofs.SegmentSum.{propagated, judged_allowed}
use Rattle.propagation.proofs.propagation_of.Goals as goal

pub returns : goal.returns
returns c =
    let i = propagated c.args.s (λ p d. search rules) c.judged.ensures.is c.unwrap_or_default.ensures in record {
      is = i;
      allowed = judged_allowed c.args.s i;
    }
