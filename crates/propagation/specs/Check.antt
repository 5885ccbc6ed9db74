-- The first line that a segment does not keep (01, "Turned back for a figure").
-- Assumes nothing.
use Rattle.std.specs.Prelude.{Bool, List, [], ◌∷◌, ◌++◌, ℕ, Ok}
use Rattle.figures.specs.declared.Segment.{Segment}
use Rattle.figures.specs.declared.Refusal.TheVariants.{Shadow, Reading}
use Rattle.figures.specs.Refusal.{unless, Check}
use Rattle.figures.specs.Rules.{ranges_then, readings_kept, range_lines}
use Rattle.propagation.specs.Screen.{shadow_kept}

-- lines 1 to 5, then 6, then 7
unfoldable pub segment_check : Segment → Check
segment_check s = ranges_then s (unless (shadow_kept s) Shadow (unless (readings_kept s) Reading (Ok tt)))

-- the same lines with their numbers
unfoldable pub segment_lines : Segment → List (ℕ × Bool)
segment_lines s = range_lines s ++ ((6, shadow_kept s) ∷ (7, readings_kept s) ∷ [])
