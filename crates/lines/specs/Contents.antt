-- The contents, a text's first line (01, "The text": "the segment count (1 to 24), then each segment's entry count (0 to 96), in all 1 to 96"), over any limits.
-- Assumes nothing.
use Rattle.std.specs.Prelude.{◌≡◌, ℕ, ◌≤◌, Bool, false, cond, ◌&&◌, List, [], ◌∷◌, length, take, sum, ℤ, pos, negsuc, Option, None, Some, Result, Ok, Err, ◌==◌, nat_le}
use Rattle.std.specs.Result.{result_map_both}
use Rattle.arrayvec.specs.ArrayVec.{ArrayVec}
use Rattle.figures.specs.declared.Refusal.{Refusal}
use Rattle.figures.specs.declared.Refusal.TheVariants.{Form, Contents}
use Rattle.study.specs.Add.{Limits}
use Rattle.lines.specs.Numbers.{front, numbers_of}

-- "Its number count must be one more than its first number, even where that is out of range": the first counts the others
abbrev pub is_count : ℤ → ℕ → Bool
is_count (pos n) others = n == others
is_count (negsuc n) others = false

-- an entry count in front, 0 to most
abbrev pub entry_count : ℕ → ℤ → Option (List ℕ) → Option (List ℕ)
entry_count most (pos c) rest = cond (nat_le c most) (front c rest) None
entry_count most (negsuc c) rest = None

unfoldable pub counts_in : ℕ → List ℤ → Option (List ℕ)
counts_in most [] = Some []
counts_in most (v ∷ vs) = entry_count most v (counts_in most vs)

-- low to high
abbrev pub between : ℕ → ℕ → ℕ → Bool
between low high n = nat_le low n && nat_le n high

-- in all 1 to as many as a study may hold, else out of range
abbrev pub in_all : Limits → Option (List ℕ) → Result (List ℕ) Refusal
in_all l None = Err Contents
in_all l (Some cs) = cond (between 1 l.entries (sum cs)) (Ok cs) (Err Contents)

-- every number's form and their count come before any range. A line has at least one word, so the second case does not arise
abbrev pub contents_in : Limits → Option (List ℤ) → Result (List ℕ) Refusal
contents_in l None = Err Form
contents_in l (Some []) = Err Form
contents_in l (Some (v ∷ vs)) =
    cond (is_count v (length vs))
    (cond (between 1 l.segments (length vs)) (in_all l (counts_in l.entries vs)) (Err Contents))
    (Err Form)

unfoldable pub contents_of : Limits → List ℕ → Result (List ℕ) Refusal
contents_of l line = contents_in l (numbers_of line)

-- ---- as they are read

abbrev pub limits : ℕ → ℕ → Limits
limits segments entries = record { segments = segments; entries = entries }

-- the counts that were read, as a list
abbrev pub counts_of : Result (ArrayVec ℕ) Refusal → Result (List ℕ) Refusal
counts_of r = result_map_both (λ (v : ArrayVec ℕ). v.items) (λ (f : Refusal). f) r

-- ---- read into lent counts

-- how many counts an answer says there are
abbrev pub count_of : Result ℕ Refusal → ℕ
count_of (Ok n) = n
count_of (Err r) = 0

-- what an answer says, of the list that its counts are the first of
abbrev pub read_as : Result ℕ Refusal → List ℕ → Result (List ℕ) Refusal
read_as (Ok n) list = Ok (take n list)
read_as (Err r) list = Err r

-- as many segments as counts are lent, and so many entries: the counts read stand first; what the places after them hold is left open
pub record ContentsRead (entries : ℕ) (line before after : List ℕ) (r : Result ℕ Refusal) : Type 0 where
  pub size : length after ≡ length before
  pub room : count_of r ≤ length after
  pub is : read_as r after ≡ contents_of (limits (length before) entries) line
