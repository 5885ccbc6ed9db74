-- Values as C's structs hold them: a level, a line's number, and a period's result.
-- Assumes nothing.
use Rattle.std.specs.Prelude.{Bool, true, false, ℕ, min, ℤ, pos}
use Rattle.decibel.specs.declared.Level.{Level}
use Rattle.decibel.specs.declared.Level.TheVariants.{Silent, Figure}
use Rattle.request.specs.declared.PeriodResult.{PeriodResult}
use Rattle.c_values.specs.declared.LevelValue.{LevelValue}
use Rattle.c_values.specs.declared.RailnoisePeriod.{RailnoisePeriod}

abbrev pub is_silent : Level → Bool
is_silent Silent = true
is_silent (Figure tenths) = false

-- tenths; 0 where the level is silent
abbrev pub tenths_of : Level → ℤ
tenths_of Silent = pos 0
tenths_of (Figure tenths) = tenths

unfoldable pub level_value : Level → LevelValue
level_value l = record { silent = is_silent l; tenths = tenths_of l }

-- a line as 32 bits hold it: one above 4,294,967,295 counts as that
abbrev pub line_value : ℕ → ℕ
line_value line = min line 4294967295

unfoldable pub exported_period : PeriodResult → RailnoisePeriod
exported_period r = record { silent = is_silent r.level; level = tenths_of r.level; close = r.close; met = r.met }
