-- Each segment step's exact value, by the whole numbers of microdecibels that it is at least; and that its fence is the largest of them (01, "The bare level").
-- Assumes nothing.
use Rattle.std.specs.Prelude.{◌≡◌, true, false, ◌+◌, ◌*◌, ◌≤◌, ◌<◌, pos, ◌+ℤ◌}
use Rattle.decibel.specs.Ints.{up}
use Rattle.decibel.specs.Log.{AtLeast}
use Rattle.decibel.specs.Round.{IsFence}
use Rattle.figures.specs.declared.Segment.{Segment}
use Rattle.figures.specs.Geometry.{slant_square, in_shadow}
use Rattle.figures.specs.Rules.{unscreened}
use Rattle.propagation.specs.Distance.{distance_fence}
use Rattle.propagation.specs.Air.{air_fence, AirAtLeast}
use Rattle.propagation.specs.Angle.{y_of, angle_fence}
use Rattle.propagation.specs.Opposite.{opposite_fence, OppositeAtLeast}
use Rattle.propagation.specs.Screen.{path_difference, wall_loss, ReducedAtLeast}
use Rattle.propagation.specs.Ground.{ground_factor, grounded, path_fence}

-- proved of every accepted segment as `segment_fences` in proofs/Fences.antt
pub record SegmentFences (s : Segment) : Type 0 where
  -- "−10·log(d'/25 m)", over the square of d' with the factor 5
  pub distance : IsFence (AtLeast 0 5000000 6250000 (slant_square s)) (distance_fence s)
  -- "0.2 − 0.008·d', d' in metres"
  pub air : IsFence (AirAtLeast s) (air_fence s)
  -- "−0.0006·I·(600 − H)·log(d/2500)" where it counts, "Else 0"
  pub ground : grounded s ≡ true → IsFence (AtLeast 0 (ground_factor s) 2500 (up s.distance)) (path_fence s)
  pub bare_ground : unscreened s ≡ true → grounded s ≡ false → path_fence s ≡ pos 0
  -- with a screen "In shadow: −7.75·log(5.2 + 203·δ)", δ in ten-millionths of a metre, after the far wall's loss (L1)
  pub shadow : unscreened s ≡ false → in_shadow s ≡ true → IsFence (ReducedAtLeast (wall_loss s) (AtLeast 0 7750000 10000000 (52000000 + 203 * path_difference s))) (path_fence s)
  -- "Illuminated: 0.88 + 2.14·log(δ + 0.001) up to 0.4 m", after that loss; "beyond it 0", with or without one
  pub illuminated : unscreened s ≡ false → in_shadow s ≡ false → path_difference s ≤ 4000000 → IsFence (ReducedAtLeast (wall_loss s) (AtLeast 880000 2140000 (path_difference s + 10000) 10000000)) (path_fence s)
  pub beyond : unscreened s ≡ false → in_shadow s ≡ false → 4000000 < path_difference s → path_fence s ≡ pos 0
  -- "10·log y − 5": at least m where 10·log y is at least m + 5, y in billionths
  pub angle : IsFence (λ m. AtLeast 0 10000000 (up (y_of (up s.view) (up s.doubled))) 1000000000 (m +ℤ pos 5000000)) (angle_fence s)
  -- "1.5·θ'/θ"
  pub opposite : IsFence (OppositeAtLeast s) (opposite_fence s)
