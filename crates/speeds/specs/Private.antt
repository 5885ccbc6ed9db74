-- What contracts of this crate's private functions cite: the total of some cells with one entry at a speed, and what a search among speeds finds.
-- Assumes nothing.
use Rattle.std.specs.Prelude.{List, ℕ, zero, suc, ℤ, Option, None, Some}
use Rattle.decibel.specs.declared.Level.{Level}
use Rattle.energy.specs.Mark.{total_of}
use Rattle.figures.specs.declared.Train.{Train}
use Rattle.figures.specs.declared.Period.{Period}
use Rattle.speeds.specs.Speeds.{levels_with}

-- where the entry at that place has a speed
abbrev pub total_at : Period → List ℤ → ℕ → ℤ → Train → ℕ → Level
total_at p cells i tenths t v = (total_of (levels_with p cells i tenths t v)).level

-- a speed, none where it is 0
unfoldable pub speed_found : ℕ → Option ℕ
speed_found zero = None
speed_found (suc v) = Some (suc v)
