-- `propagation::parts_of` meets its contract.
use Rattle.propagation.proofs.SegmentSum.{parts_are}
use Rattle.propagation.proofs.parts_of.Goals as goal
use Rattle.propagation.proofs.Chain.{ranges}

pub returns : goal.returns
returns c =
    parts_are _ (ranges _ c.args.kept.kept) c.path_step-path.ensures c.distance_step.ensures c.air_step.ensures c.angle_step.ensures c.opposite_step.ensures c.facade_figure.ensures
