-- `propagation::angle::y_of` meets its contract.
use Rattle.propagation.proofs.AngleStep.{y_is}
use Rattle.propagation.proofs.angle.y_of.Goals as goal

pub returns : goal.returns
returns c =
    y_is _ c.sine.result c.cosine.result c.requires c.sine.ensures.small c.cosine.ensures.small c.sine.ensures.is c.cosine.ensures.is
