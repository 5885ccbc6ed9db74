-- `decibel::place` meets its contract.
use Rattle.std.proofs.Common.{rules}
use Rattle.decibel.proofs.Walk.{found}
use Rattle.decibel.proofs.place.Goals as goal

pub overflow_sub-result : goal.overflow_sub-result
overflow_sub-result c = let p = c.partition_point.ensures in (found c.requires p.bound p.partitioned (λ a r q k. search rules)).0

pub returns : goal.returns
returns c = let p = c.partition_point.ensures in (found c.requires p.bound p.partitioned (λ a r q k. search rules)).1
