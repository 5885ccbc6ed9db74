-- `propagation::opposite::opposite_step` meets its contract.
use Rattle.propagation.proofs.OppositeStep.{opposite_is, view_some, share_cast}
use Rattle.propagation.proofs.opposite.opposite_step.Goals as goal
use Rattle.propagation.proofs.Chain.{ranges}

pub returns : goal.returns
returns c = let p = ranges _ c.args.kept.kept in opposite_is p.ranged p.readings c.natural.ensures c.natural-2.ensures

pub nonzero_div-share : goal.nonzero_div-share
nonzero_div-share c = let p = ranges _ c.args.kept.kept in view_some p.ranged p.readings c.natural.ensures c.natural-2.ensures

pub overflow_cast-result : goal.overflow_cast-result
overflow_cast-result c = let p = ranges _ c.args.kept.kept in share_cast p.ranged p.readings c.natural.ensures c.natural-2.ensures
