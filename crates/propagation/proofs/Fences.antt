-- Each segment step's fence is the largest whole number of microdecibels not above its exact value.
-- Assumes nothing.
use mathlib.Core.Path.{◌≡◌, refl}
use mathlib.Core.Bool.{true, false}
use Prim.Native.Nat.{ℕ, ◌+◌, ◌*◌, ◌≤◌, ◌<◌}
use native.Mathlib.Nat.{le_trans}
use native.Mathlib.Omega.{arith}
use lib.Dec.{lit<, lit≤}
use lib.IntN.{pos}
use borrow.Author.Tests.{le-leb, lt-leb}
use Rattle.decibel.specs.Log.{AtLeast, fence}
use Rattle.decibel.specs.Round.{IsFence}
use Rattle.decibel.proofs.Exact.{fence_is, at_least_falls}
use Rattle.figures.specs.declared.Segment.{Segment}
use Rattle.figures.specs.Geometry.{in_shadow}
use Rattle.figures.specs.Rules.{unscreened}
use Rattle.propagation.specs.Screen.{path_difference, screen_formula, wall_loss, reduced, ReducedAtLeast, screen_fence}
use Rattle.propagation.specs.Check.{segment_check}
use Rattle.propagation.specs.Ground.{grounded, path_fence}
use Rattle.propagation.specs.Fences.{SegmentFences}
use Rattle.propagation.proofs.Chain.{ranges}
use Rattle.propagation.proofs.DistanceStep.{distance_fence_lem}
use Rattle.propagation.proofs.AirStep.{air_fence_largest}
use Rattle.propagation.proofs.AngleStep.{angle_fence_lem}
use Rattle.propagation.proofs.OppositeStep.{opposite_fence_largest}
use Rattle.propagation.proofs.WallLoss.{fence-reduced, none_reduced}
use Rattle.propagation.proofs.GroundMark.{ground_fence_lem}
use Rattle.std.specs.Prelude.{Ok}

-- ---- ground that does not count, and the screen

module _ (s : Segment) where
  no_ground : unscreened s ≡ true → grounded s ≡ false → path_fence s ≡ pos 0
  unfolding path_fence
  no_ground e i = rw (e, i) refl

  module _ (screened : unscreened s ≡ false) where
    -- a value's fence, with the far wall's loss
    after_wall : (c f num den : ℕ) → 0 < num → 0 < den → IsFence (ReducedAtLeast (wall_loss s) (AtLeast c f num den)) (reduced (wall_loss s) (fence c f num den))
    after_wall c f num den p q = fence-reduced (AtLeast c f num den) (at_least_falls c f num den) (wall_loss s) (fence c f num den) (fence_is c f num den p q)

    shadow_fence : in_shadow s ≡ true → IsFence (ReducedAtLeast (wall_loss s) (AtLeast 0 7750000 10000000 (52000000 + 203 * path_difference s))) (path_fence s)
    unfolding path_fence screen_fence screen_formula
    shadow_fence e = rw (screened, e) (after_wall 0 7750000 10000000 (52000000 + 203 * path_difference s) (lit< tt) (omega arith))

    module _ (lit : in_shadow s ≡ false) where
      illuminated_fence : path_difference s ≤ 4000000 → IsFence (ReducedAtLeast (wall_loss s) (AtLeast 880000 2140000 (path_difference s + 10000) 10000000)) (path_fence s)
      unfolding path_fence screen_fence screen_formula
      illuminated_fence h = rw (screened, lit, le-leb (path_difference s) 4000000 h) (after_wall 880000 2140000 (path_difference s + 10000) 10000000 (omega arith) (lit< tt))

      beyond : 4000000 < path_difference s → path_fence s ≡ pos 0
      unfolding path_fence screen_fence screen_formula
      beyond h = rw (screened, lit, lt-leb (path_difference s) 4000000 h) (none_reduced (wall_loss s))

pub segment_fences : (s : Segment) → segment_check s ≡ Ok tt → SegmentFences s
segment_fences s e =
    let g = (ranges s e).ranged in
    record {
      distance = distance_fence_lem g;
      air = air_fence_largest s;
      ground = ground_fence_lem s;
      bare_ground = no_ground s;
      shadow = shadow_fence s;
      illuminated = illuminated_fence s;
      beyond = beyond s;
      angle = angle_fence_lem g;
      opposite = opposite_fence_largest s (le_trans (lit≤ tt) g.view.least);
    }
