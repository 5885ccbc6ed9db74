-- The vehicles step (01, "The steps"; Chart 2, paragraph 15).
-- Assumes nothing.
use Rattle.std.specs.Prelude.{ℤ}
use Rattle.decibel.specs.Ints.{up}
use Rattle.decibel.specs.Log.{fence}
use Rattle.figures.specs.declared.Train.{Train}

-- 10 log N
unfoldable pub vehicles_fence : Train → ℤ
vehicles_fence t = fence 0 10000000 (up t.vehicles) 1
