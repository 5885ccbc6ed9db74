-- The ground step (01, "The steps"; Chart 5, paragraph 21), the screen instead of it, and its close mark (01's term): which marks are allowed, and the program's own.
-- Assumes nothing.
use Rattle.std.specs.Prelude.{◌≡◌, Bool, true, false, cond, ◌&&◌, ℕ, ◌*◌, ◌-◌, ◌/◌, ◌%◌, leb, ltb, ℤ, pos, is_ok}
use Rattle.decibel.specs.Ints.{up}
use Rattle.decibel.specs.Greatest.{clamp}
use Rattle.decibel.specs.Fine.{fine_log_at}
use Rattle.decibel.specs.Log.{AtLeast, AtMost, fence}
use Rattle.decibel.specs.Round.{nearest, MarkAllowed, Settled}
use Rattle.figures.specs.declared.Segment.{Segment}
use Rattle.figures.specs.Rules.{unscreened}
use Rattle.propagation.specs.Screen.{screen_fence}
use Rattle.propagation.specs.Check.{segment_check}

-- -0.0006 I (600 - H) log(d / 25 m), H below 100 taken as 100 and above 600 as 600. This is the factor, in microdecibels
unfoldable pub ground_factor : Segment → ℕ
ground_factor s = 600 * up s.soft * (600 - clamp 100 600 (up s.mean))

-- ground counts without a screen and for d above 25 m
unfoldable pub grounded : Segment → Bool
grounded s = cond (unscreened s) (ltb 2500 (up s.distance)) false

unfoldable pub ground_fence : Segment → ℤ
ground_fence s = fence 0 (ground_factor s) 2500 (up s.distance)

-- ground, or the screen instead of it
unfoldable pub path_fence : Segment → ℤ
path_fence s = cond (unscreened s) (cond (grounded s) (ground_fence s) (pos 0)) (screen_fence s)

-- ---- the marks that 01 allows

-- on the exact value of the ground step; a segment where ground does not count is never marked
unfoldable pub GroundMarkBy : Bool → Segment → Bool → Type 0
GroundMarkBy true s mark = MarkAllowed (AtLeast 0 (ground_factor s) 2500 (up s.distance)) (AtMost 0 (ground_factor s) 2500 (up s.distance)) mark
GroundMarkBy false s mark = mark ≡ false

unfoldable pub GroundMark : Segment → Bool → Type 0
GroundMark s mark = GroundMarkBy (grounded s) s mark

-- what a mark gives of the step, r tenths: where ground counts, the louder neighbour or the nearest of its exact value; else there is no mark, and it is the nearest.
-- Every allowed mark gives it: `ground_settled` of proofs/GroundMark.antt
unfoldable pub GroundSettledBy : Bool → Segment → Bool → ℤ → Type 0
GroundSettledBy true s mark r = Settled (AtLeast 0 (ground_factor s) 2500 (up s.distance)) (AtMost 0 (ground_factor s) 2500 (up s.distance)) mark r
GroundSettledBy false s mark r = (mark ≡ false) × (r ≡ nearest (path_fence s))

unfoldable pub GroundSettled : Segment → Bool → ℤ → Type 0
GroundSettled s mark r = GroundSettledBy (grounded s) s mark r

-- ---- the program's own mark, by name

-- the attenuation in microdecibels by the program's own logarithm: at most 151 too high, less than 2 too low
unfoldable pub attenuation : Segment → ℕ
attenuation s = (fine_log_at (4 * up s.distance) - 40000000) * ground_factor s / 10000000

-- so many microdecibels lie at most 0.0015 dB from a tie
abbrev pub is_close : ℕ → Bool
is_close a = leb 48500 (a % 100000) && leb (a % 100000) 51500

-- the program's own mark: that attenuation lies so close (`ground_mark_allowed` of proofs/GroundMark.antt: it is a `GroundMark`)
unfoldable pub ground_mark : Segment → Bool
ground_mark s = cond (grounded s) (is_close (attenuation s)) false

-- the marks that 01 allows a segment: its ground step's, and none where the segment is refused
unfoldable pub SegmentMarkBy : Bool → Segment → Bool → Type 0
SegmentMarkBy true s mark = GroundMark s mark
SegmentMarkBy false s mark = mark ≡ false

unfoldable pub SegmentMark : Segment → Bool → Type 0
SegmentMark s mark = SegmentMarkBy (is_ok (segment_check s)) s mark
