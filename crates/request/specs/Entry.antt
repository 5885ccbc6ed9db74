-- A train entry's level in tenths and its fence in microdecibels: what its segment and its train add, each part once (01, "The steps" and "The bare level").
-- Assumes nothing.
use Rattle.std.specs.Prelude.{Bool, ℤ, ◌+ℤ◌}
use Rattle.decibel.specs.declared.Level.{Level}
use Rattle.figures.specs.declared.Segment.{Segment}
use Rattle.figures.specs.declared.Train.{Train}
use Rattle.figures.specs.declared.Period.{Period}
use Rattle.propagation.specs.Propagation.{segment_breakdown_by, added_up, segment_fence}
use Rattle.emission.specs.Emission.{raised, emission_of, train_fence}

-- by the mark of the segment's ground step. A refused segment adds nothing, and a refused train is silent
unfoldable pub level_by : Period → Segment → Bool → Train → Level
level_by p s mark t = raised (added_up (segment_breakdown_by s mark)) (emission_of p t)

-- with no step rounded
unfoldable pub entry_fence : Period → Segment → Train → ℤ
entry_fence p s t = segment_fence s +ℤ train_fence p t
