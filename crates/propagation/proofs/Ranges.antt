-- What is known of a segment that is accepted.
-- Assumes nothing.
use Rattle.std.specs.Prelude.{◌≡◌, true, false, ◌≤◌}
use Rattle.figures.specs.declared.Segment.{Segment}
use Rattle.figures.specs.Geometry.{in_shadow}
use Rattle.figures.specs.Rules.{unscreened}
use Rattle.figures.proofs.Ranged.{Ranged, ReadingsRanged}
use Rattle.propagation.specs.Screen.{path_difference, most_shadow}

-- an accepted segment (`ranges` of Chain)
pub record Ranges (s : Segment) : Type 0 where
  pub ranged : Ranged s
  pub readings : ReadingsRanged s
  pub shadow : unscreened s ≡ false → in_shadow s ≡ true → path_difference s ≤ most_shadow
