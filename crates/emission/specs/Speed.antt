-- The speed step (01, "The steps"; 02, L4; Chart A1.1, paragraph 14, footnote 4).
-- Assumes nothing.
use Rattle.std.specs.Prelude.{ℕ, max, ℤ}
use Rattle.decibel.specs.Ints.{up}
use Rattle.decibel.specs.Log.{fence}
use Rattle.figures.specs.declared.Train.{Train}

-- where the method's range of speeds begins, in km/h
abbrev pub least_counted : ℕ
least_counted = 20

-- the speed as counted: a slower train counts as at that speed (L4)
unfoldable pub counted_speed : Train → ℕ
counted_speed t = max least_counted (up t.speed)

-- 31.2 + 20 log V, V as counted
unfoldable pub speed_fence : Train → ℤ
speed_fence t = fence 31200000 20000000 (counted_speed t) 1
