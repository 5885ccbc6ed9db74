-- What only private functions cite: a cell's height and weight, and a figure above the loudest.
-- Assumes nothing.
use Rattle.std.specs.Prelude.{◌≡◌, [], ◌∷◌, ℕ, ◌+◌, ◌≤◌, ℤ, pos, ◌-ℤ◌}
use Rattle.energy.specs.Total.{heard}
use Rattle.energy.specs.Mark.{loudest_of, weighed}

-- r is v, and at most a bound
pub record Bounded (bound v r : ℕ) : Type 0 where
  pub is : r ≡ v
  pub most : r ≤ bound

-- the height of a cell, 0 where it is silent
abbrev pub height_at : ℤ → ℕ
height_at c = loudest_of (heard (c ∷ []))

-- the weight of a cell where the loudest has height top, 0 where it is silent
abbrev pub weight_at : ℕ → ℤ → ℕ
weight_at top c = weighed top (heard (c ∷ []))

-- the tenth that is k tenths above the level of a height
abbrev pub figure_at : ℕ → ℕ → ℤ
figure_at top k = pos (top + k) -ℤ pos 2001
