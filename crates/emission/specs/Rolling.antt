-- The vehicle table (01, "The study"; Table A1.1, paragraph 14).
-- Assumes nothing.
use Rattle.std.specs.Prelude.{List, [], ◌∷◌, ℕ, ◌-◌, ℤ, pos, get_or}
use Rattle.decibel.specs.Ints.{up}
use Rattle.figures.specs.declared.Train.{Train}

-- its rolling figures in tenths, in its order
unfoldable pub rollings : List ℕ
rollings =
    148 ∷ 148 ∷ 167 ∷ 108 ∷ 108 ∷ 129 ∷ 71 ∷ 60 ∷ 60 ∷ 113 ∷ 84 ∷ 84 ∷ 70 ∷ 70 ∷ 158 ∷ 149 ∷ 120 ∷ 150 ∷ 80 ∷ 75 ∷ 148 ∷ 166 ∷ 148 ∷ 166 ∷ 180 ∷ 166 ∷ 166 ∷ 166 ∷ 166 ∷ 148 ∷ 148 ∷ 148 ∷ 148 ∷ 148 ∷ []

-- rows count from 1
unfoldable pub rolling_tenths : Train → ℤ
rolling_tenths t = pos (get_or rollings (up t.row - 1) 0)
