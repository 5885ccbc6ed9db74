-- What each segment of a plan adds and its own mark, with nothing added and no mark where there is no segment.
-- Assumes nothing.
use mathlib.Core.Path.{◌≡◌, refl, sym, ap, ◌∙◌}
use mathlib.Core.Bool.{Bool, true, false, cond}
use mathlib.Core.List.{map}
use Prim.Native.Nat.{ℕ}
use lib.IntN.{pos}
use lib.ListN.{get_or, get_or-map}
use Rattle.figures.specs.declared.Segment.{Segment}
use Rattle.figures.specs.Refusal.{unless}
use Rattle.figures.specs.Rules.{distance_kept, ranges_then}
use Rattle.propagation.specs.declared.Propagation.{Propagation}
use Rattle.propagation.specs.Check.{segment_check}
use Rattle.propagation.specs.Ground.{ground_mark}
use Rattle.propagation.specs.Propagation.{segment_parts_by, no_segment_parts, segment_breakdown_by, segment_breakdown_of, added_up, propagation_of}
use Rattle.study.specs.Plan.{Plan, segment_at, no_segment}
use Rattle.request.specs.Levels.{mark_at, ground_marks}
use Rattle.std.specs.Prelude.{is_ok}

-- nothing is added where there is no segment
pub none_adds : propagation_of no_segment ≡ record { tenths = pos 0; close = false }
unfolding propagation_of segment_breakdown_of segment_breakdown_by no_segment_parts added_up segment_check ranges_then distance_kept unless
none_adds = refl

-- the program's own mark is the ground's, and false where there is no segment
pub own_mark : (plan : Plan) (k : ℕ) → mark_at (ground_marks plan) k ≡ (propagation_of (segment_at plan k)).close
unfolding ground_marks
own_mark plan k =
    ap (get_or (map (λ (s : Segment). (propagation_of s).close) plan.segments) k) (sym (ap (λ (p : Propagation). p.close) none_adds))
    ∙ get_or-map (λ (s : Segment). (propagation_of s).close) plan.segments k no_segment

-- and with it a segment's tenths are those that it adds
pub own_tenths : (s : Segment) → added_up (segment_breakdown_by s (propagation_of s).close) ≡ (propagation_of s).tenths
unfolding segment_breakdown_by propagation_of segment_breakdown_of segment_parts_by
own_tenths s = go (is_ok (segment_check s))
  where
    go : (b : Bool) → added_up (cond b (segment_parts_by s (cond b (segment_parts_by s (ground_mark s)) no_segment_parts).close) no_segment_parts) ≡ added_up (cond b (segment_parts_by s (ground_mark s)) no_segment_parts)
    go true = refl
    go false = refl
