-- What only private functions cite: a line's parts as one text.
-- Assumes nothing.
use mathlib.Core.List.{List, flatten}
use Rattle.std.specs.Prelude.{ℕ, ℤ}
use Rattle.figures.specs.declared.Segment.{Segment}
use Rattle.figures.specs.declared.Train.{Train}
use Rattle.breakdown.specs.Lines.{segment_parts, entry_parts}

unfoldable pub segment_bytes : ℕ → Segment → List ℕ
segment_bytes number s = flatten (segment_parts number s)

unfoldable pub entry_bytes : ℕ → ℕ → Train → ℤ → ℤ → List ℕ
entry_bytes number segment t day night = flatten (entry_parts number segment t day night)
