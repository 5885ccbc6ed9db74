-- A table's rule, and the test of it that antt computes over the whole list.
-- Assumes nothing.
use mathlib.Core.Path.{◌≡◌}
use mathlib.Core.Bool.{Bool, true, false, not}
use mathlib.Core.List.{List, [], ◌∷◌}
use Prim.Native.Nat.{ℕ, suc, pred, ◌+◌, ◌-◌, ◌*◌, ◌^◌, ◌≤◌, ◌<◌}
use lib.Dec.{T, leb}
use lib.ListN.{length, get_or}
use Rattle.std.specs.List.Sorted.{IsNonDecreasing}

-- s · log (num / den) + k is at least m
unfoldable pub reaches : ℕ → ℕ → ℕ → ℕ → ℕ → Bool
reaches k s num den m = leb (den ^ s * 10 ^ m) (num ^ s * 10 ^ k)

abbrev pub both : Bool → Bool → Bool
both true b = b
both false b = false

-- the test f passes at each entry of the list and its place, counted from i
abbrev pub every_entry : (ℕ → ℕ → Bool) → ℕ → List ℕ → Bool
every_entry f i [] = true
every_entry f i (x ∷ xs) = both (f i x) (every_entry f (suc i) xs)

-- entry i is the least number that passes the test p i
abbrev pub least : (ℕ → ℕ → Bool) → ℕ → ℕ → Bool
least p i x = both (p i x) (not (p i (pred x)))

abbrev pub thresholds : (ℕ → ℕ → Bool) → List ℕ → Bool
thresholds p xs = every_entry (least p) 0 xs

-- a rising step: entry i is the least n with s · log (n / den) + k at least e · i + f
abbrev pub rising_test : (k s den e f : ℕ) → ℕ → ℕ → Bool
rising_test k s den e f i n = reaches k s n den (e * i + f)

-- a falling step: entry i is the least n with s · log (num / n) + k below f - e · i
abbrev pub falling_test : (k s num e f : ℕ) → ℕ → ℕ → Bool
falling_test k s num e f i n = not (reaches k s num n (f - e * i))

-- the numbers from low to high stand in a table of so many entries, which rises
pub record Fits (count low high : ℕ) (xs : List ℕ) : Type 0 where
  pub size : length xs ≡ count
  pub rises : IsNonDecreasing xs
  pub first : get_or xs 0 0 ≤ low
  pub last : high < get_or xs (count - 1) 0

pub record Rising (k s den e f count low high : ℕ) (xs : List ℕ) : Type 0 where
  pub fits : Fits count low high xs
  pub rule : T (thresholds (rising_test k s den e f) xs)

pub record Falling (k s num e f count low high : ℕ) (xs : List ℕ) : Type 0 where
  pub fits : Fits count low high xs
  pub rule : T (thresholds (falling_test k s num e f) xs)

-- entry i is such as Of i says
pub record Values (Of : ℕ → ℕ → Type 0) (count : ℕ) (xs : List ℕ) : Type 0 where
  pub size : length xs ≡ count
  pub rule : (i : ℕ) → i < count → Of i (get_or xs i 0)

-- entry i is r
pub record Holds (xs : List ℕ) (i r : ℕ) : Type 0 where
  pub inside : i < length xs
  pub is : r ≡ get_or xs i 0
