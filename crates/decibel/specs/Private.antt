-- What only private functions cite: a number brought to a large one, and its place in a list of thresholds.
-- Assumes nothing.
use Rattle.std.specs.Prelude.{◌≡◌, List, ℕ, ◌+◌, ◌-◌, ◌*◌, ◌^◌, ◌≤◌, ◌<◌, length, get_or, ℤ, pos}
use Rattle.std.specs.List.Sorted.{IsNonDecreasing}
use Rattle.decibel.specs.Ints.{up}
use Rattle.decibel.specs.Fine.{tenfolds_of}

-- n is at least the first entry and below the last
pub record Within (xs : List ℕ) (n : ℕ) : Type 0 where
  pub some : 1 < length xs
  pub first : get_or xs 0 0 ≤ n
  pub last : n < get_or xs (length xs - 1) 0

-- the list rises, and n stands in it
pub record Sought (xs : List ℕ) (n : ℕ) : Type 0 where
  pub rises : IsNonDecreasing xs
  pub stands : Within xs n

-- the list rises, and every number from low to high stands in it
pub record Spans (xs : List ℕ) (low high : ℕ) : Type 0 where
  pub some : 1 < length xs
  pub short : length xs < 1000
  pub rises : IsNonDecreasing xs
  pub ordered : low ≤ high
  pub first : get_or xs 0 0 ≤ low
  pub last : high < get_or xs (length xs - 1) 0

-- n is at least entry r and below the next
pub record Between (xs : List ℕ) (n r : ℕ) : Type 0 where
  pub inside : r + 1 < length xs
  pub low : get_or xs r 0 ≤ n
  pub high : n < get_or xs (r + 1) 0

-- the same as a signed number
pub record Placed (xs : List ℕ) (n : ℕ) (r : ℤ) : Type 0 where
  pub whole : r ≡ pos (up r)
  pub between : Between xs n (up r)

-- n brought to a large number by e tenfolds
pub record Scaled (n number e : ℕ) : Type 0 where
  pub tenfolds : e ≡ tenfolds_of n
  pub large : number ≡ n * 10 ^ tenfolds_of n
