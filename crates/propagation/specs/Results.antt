-- What the public functions of this crate ensure: the value, and bounds that let it be added.
-- Assumes nothing.
use Rattle.std.specs.Prelude.{◌≡◌}
use Rattle.figures.specs.Bounds.{Below}
use Rattle.propagation.specs.declared.SegmentBreakdown.{SegmentBreakdown}

-- each part is small
pub record PartsBelow (b : SegmentBreakdown) : Type 0 where
  pub distance : Below 2000 b.distance
  pub air : Below 2000 b.air
  pub angle : Below 2000 b.angle
  pub opposite : Below 2000 b.opposite
  pub path : Below 2000 b.path
  pub facade : Below 2000 b.facade
  pub chart : Below 2000 b.chart
  pub track : Below 2000 b.track
  pub ballast : Below 2000 b.ballast

pub record SegmentParted (v r : SegmentBreakdown) : Type 0 where
  pub is : r ≡ v
  pub small : PartsBelow r
