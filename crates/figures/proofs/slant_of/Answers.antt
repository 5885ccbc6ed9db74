-- `figures::slant_of` meets its contract.
use mathlib.Core.Path.{◌∙◌, ap, ap₂}
use Prim.Native.Nat.{◌+◌}
use mir.Facts.{to_z-of_z}
use Rattle.figures.specs.Geometry.{squared, slant}
use Rattle.figures.proofs.slant_of.Goals as goal

pub returns : goal.returns
unfolding slant
returns c =
    ap₂ ◌+◌ (c.square.ensures.is ∙ ap squared (to_z-of_z c.ranges.x)) (c.square-2.ensures.is ∙ ap squared (to_z-of_z c.ranges.y))
