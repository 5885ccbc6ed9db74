-- The distance step (01, "The steps"; Chart 3, paragraph 19).
-- Assumes nothing.
use Rattle.std.specs.Prelude.{ℤ}
use Rattle.decibel.specs.Log.{fence}
use Rattle.figures.specs.declared.Segment.{Segment}
use Rattle.figures.specs.Geometry.{slant_square}

-- -10 log(d' / 25 m), d' the slant distance. Over d² + h² the factor is 5
unfoldable pub distance_fence : Segment → ℤ
distance_fence s = fence 0 5000000 6250000 (slant_square s)
