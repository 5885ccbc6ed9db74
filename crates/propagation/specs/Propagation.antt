-- What a segment adds to the level of each of its entries: its parts, their sum, and its judgement (01, "The steps" and "The bare level").
-- Assumes nothing.
use Rattle.std.specs.Prelude.{Bool, false, cond, ℤ, pos, ◌+ℤ◌, Result, is_ok}
use Rattle.decibel.specs.Round.{micro, nearest, by_mark}
use Rattle.figures.specs.declared.Segment.{Segment}
use Rattle.figures.specs.declared.Refusal.{Refusal}
use Rattle.figures.specs.Refusal.{answered}
use Rattle.figures.specs.Rules.{within}
use Rattle.propagation.specs.declared.SegmentBreakdown.{SegmentBreakdown}
use Rattle.propagation.specs.declared.Propagation.{Propagation}
use Rattle.propagation.specs.Distance.{distance_fence}
use Rattle.propagation.specs.Air.{air_fence}
use Rattle.propagation.specs.Angle.{angle_fence}
use Rattle.propagation.specs.Opposite.{opposite_fence}
use Rattle.propagation.specs.Check.{segment_check}
use Rattle.propagation.specs.Ground.{path_fence, ground_mark}

-- the facade (paragraph 31.1), in tenths: 2.5 if marked
unfoldable pub facade_tenths : Segment → ℤ
facade_tenths s = cond (within (pos 1) (pos 1) s.facade) (pos 25) (pos 0)

-- ---- the parts

-- each step to its nearest tenth, ground by its mark; the readings of Chart 6(c) (paragraph 24), Table 1 (paragraph 16) and ballast (paragraph 22)
unfoldable pub segment_parts_by : Segment → Bool → SegmentBreakdown
segment_parts_by s mark =
    record {
      distance = nearest (distance_fence s);
      air = nearest (air_fence s);
      angle = nearest (angle_fence s);
      opposite = nearest (opposite_fence s);
      path = by_mark mark (path_fence s);
      close = mark;
      facade = facade_tenths s;
      chart = s.chart;
      track = s.track;
      ballast = s.ballast;
    }

unfoldable pub no_segment_parts : SegmentBreakdown
no_segment_parts = record { distance = pos 0; air = pos 0; angle = pos 0; opposite = pos 0; path = pos 0; close = false; facade = pos 0; chart = pos 0; track = pos 0; ballast = pos 0 }

-- for every segment: nothing of a refused one
unfoldable pub segment_breakdown_by : Segment → Bool → SegmentBreakdown
segment_breakdown_by s mark = cond (is_ok (segment_check s)) (segment_parts_by s mark) no_segment_parts

-- by the program's own mark
unfoldable pub segment_breakdown_of : Segment → SegmentBreakdown
segment_breakdown_of s = segment_breakdown_by s (ground_mark s)

-- ---- the parts added

unfoldable pub added_up : SegmentBreakdown → ℤ
added_up b =
    b.distance +ℤ (b.air +ℤ (b.angle +ℤ (b.opposite +ℤ (b.path +ℤ (b.facade +ℤ (b.chart +ℤ (b.track +ℤ b.ballast)))))))

unfoldable pub propagation_of : Segment → Propagation
propagation_of s = record { tenths = added_up (segment_breakdown_of s); close = (segment_breakdown_of s).close }

-- with no step rounded; the screen's is after the far wall's loss (L1)
unfoldable pub segment_fence : Segment → ℤ
segment_fence s =
    distance_fence s
    +ℤ (air_fence s +ℤ (angle_fence s +ℤ (opposite_fence s +ℤ (path_fence s +ℤ micro (facade_tenths s +ℤ (s.chart +ℤ (s.track +ℤ s.ballast)))))))

-- ---- judged

-- what a segment adds, or its refusal
unfoldable pub judgement_of : Segment → Result Propagation Refusal
judgement_of s = answered (segment_check s) (propagation_of s)
