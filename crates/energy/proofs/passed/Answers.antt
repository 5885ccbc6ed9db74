-- `energy::passed` meets its contract.
use Rattle.std.proofs.Common.{rules}
use Rattle.decibel.proofs.Walk.{found}
use Rattle.energy.proofs.Rules.{begins_sought, passed_read}
use Rattle.energy.proofs.passed.Goals as goal

pub overflow_sub-result : goal.overflow_sub-result
overflow_sub-result c =
    let p = c.partition_point.ensures in
    (found (begins_sought c.args.w c.requires) p.bound p.partitioned (λ a r q k. search rules)).0

pub returns : goal.returns
returns c =
    let p = c.partition_point.ensures in
    let is = passed_read c.args.w c.requires (found (begins_sought c.args.w c.requires) p.bound p.partitioned (λ a r q k. search rules)).1 in
    record { is = is.0; few = is.1 }
