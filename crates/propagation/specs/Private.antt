-- What contracts of this crate's private functions cite.
-- Assumes nothing.
use Rattle.std.specs.Prelude.{◌≡◌, true, false, ℕ, ◌<◌, ℤ, ◌+ℤ◌, Option, Some, None, Result, Ok, Err}
use Rattle.std.specs.Int.Signed.{mag}
use Rattle.decibel.specs.Round.{nearest, by_mark}
use Rattle.figures.specs.declared.Segment.{Segment}
use Rattle.figures.specs.Rules.{unscreened}
use Rattle.figures.specs.Bounds.{Below}
use Rattle.figures.specs.Private.{Exactly}
use Rattle.figures.specs.declared.Refusal.{Refusal}
use Rattle.propagation.specs.declared.kept.Kept.{Kept}
use Rattle.propagation.specs.declared.SegmentBreakdown.{SegmentBreakdown}
use Rattle.propagation.specs.declared.Propagation.{Propagation}
use Rattle.propagation.specs.declared.ground.Path.{Path}
use Rattle.propagation.specs.Check.{segment_check}
use Rattle.propagation.specs.Angle.{y_of}
use Rattle.propagation.specs.Screen.{length_of, screen_fence}
use Rattle.propagation.specs.Ground.{path_fence, ground_mark}
use Rattle.propagation.specs.Propagation.{added_up}

-- the screen's tenths where there is one, none where there is not
unfoldable pub Screens : Segment → Option ℤ → Type 0
Screens s None = unscreened s ≡ true
Screens s (Some r) = (unscreened s ≡ false) × Exactly (nearest (screen_fence s)) r

pub record Length (n r : ℕ) : Type 0 where
  pub is : r ≡ length_of n
  pub small : r < 4294967296

-- y of the angle step
pub record View (view doubled : ℕ) (r : ℤ) : Type 0 where
  pub is : r ≡ y_of view doubled
  pub small : mag r < 20000000000

-- ground, or the screen instead of it, with the ground's mark
pub record PathTenths (s : Segment) (r : Path) : Type 0 where
  pub is : r.tenths ≡ by_mark (ground_mark s) (path_fence s)
  pub mark : r.close ≡ ground_mark s
  pub small : Below 2000 r.tenths

-- four numbers added, the last two first
pub record FourAdded (bound : ℕ) (a b c d r : ℤ) : Type 0 where
  pub is : r ≡ a +ℤ (b +ℤ (c +ℤ d))
  pub small : Below bound r

-- the parts added, with their mark
abbrev pub sum_of : SegmentBreakdown → Propagation
sum_of b = record { tenths = added_up b; close = b.close }

-- the segment itself, kept, or its refusal
unfoldable pub Judges : Segment → Result Kept Refusal → Type 0
Judges s (Ok k) = k.ranged.segment ≡ s
Judges s (Err why) = segment_check s ≡ Err why
