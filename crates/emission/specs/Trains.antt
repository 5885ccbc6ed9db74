-- The trains step of a period (01, "The steps"; paragraph 32).
-- Assumes nothing.
use Rattle.std.specs.Prelude.{Bool, cond, ℕ, ◌*◌, ltb, ℤ, pos, ◌-ℤ◌}
use Rattle.decibel.specs.Ints.{up}
use Rattle.decibel.specs.Log.{fence}
use Rattle.decibel.specs.Round.{nearest}
use Rattle.decibel.specs.declared.Level.{Level}
use Rattle.decibel.specs.declared.Level.TheVariants.{Silent, Figure}
use Rattle.figures.specs.declared.Train.{Train}
use Rattle.figures.specs.declared.Period.{Period}
use Rattle.figures.specs.declared.Period.TheVariants.{Day, Night}

-- the trains of a period
unfoldable pub trains_in : Period → Train → ℕ
trains_in Day t = up t.day
trains_in Night t = up t.night

-- an entry has trains in a period when its count there is above zero
unfoldable pub sounds : Period → Train → Bool
sounds p t = ltb 0 (trains_in p t)

-- what a period's hours take off, in tenths: 48.1 by day, 43.3 by night
unfoldable pub hours_tenths : Period → ℕ
hours_tenths Day = 481
hours_tenths Night = 433

-- 10 log Q less that
unfoldable pub trains_fence : Period → Train → ℤ
trains_fence p t = fence 0 10000000 (trains_in p t) 1 -ℤ pos (100000 * hours_tenths p)

-- the step to its nearest tenth; "Q = 0 makes the entry silent in that period"
unfoldable pub trains_level : Period → Train → Level
trains_level p t = cond (sounds p t) (Figure (nearest (trains_fence p t))) Silent
