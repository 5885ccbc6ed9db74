-- What private contracts alone cite: a number in front of some words, and the entry counts of a contents line, one after another.
-- Assumes nothing.
use Rattle.std.specs.Prelude.{◌≡◌, ℕ, ◌≤◌, cond, List, [], ◌∷◌, ◌++◌, length, sum, ℤ, Option, None, Some, Result, Err}
use Rattle.figures.specs.declared.Refusal.{Refusal}
use Rattle.figures.specs.declared.Refusal.TheVariants.{Contents}
use Rattle.study.specs.Add.{Limits}
use Rattle.lines.specs.Bytes.{past}
use Rattle.lines.specs.Numbers.{values_of, values_left}
use Rattle.lines.specs.Contents.{counts_in, between, in_all}

-- the number v stands in front of the words, and so much behind the space after it
pub record InFront (words : List ℕ) (v : ℤ) (left : Option (List ℕ)) : Type 0 where
  pub values : values_of words ≡ Some v ∷ values_left left
  pub behind : past 32 words ≡ left

-- what entry counts give, all of the right form and as many as announced
abbrev pub counts_read : Limits → List ℤ → Result (List ℕ) Refusal
counts_read l vs = cond (between 1 l.segments (length vs)) (in_all l (counts_in l.entries vs)) (Err Contents)

-- the numbers vs are entry counts in range, of that sum
pub record Held (l : Limits) (vs : List ℤ) (list : List ℕ) (total : ℕ) : Type 0 where
  pub few : length list ≤ l.segments
  pub many : length vs ≡ length list
  pub are : counts_in l.entries vs ≡ Some list
  pub sum_is : total ≡ sum list
  pub within : total ≤ l.entries

-- they are held, or they are out of range whatever follows them
abbrev pub Summed : Limits → List ℤ → List ℕ → Option ℕ → Type 0
Summed l vs list (Some sum) = Held l vs list sum
Summed l vs list None = (us : List ℤ) → counts_read l (vs ++ us) ≡ Err Contents

-- one more after them
abbrev pub Counted : Limits → ℤ → List ℕ → Option ℕ → List ℕ → Option ℕ → Type 0
Counted l v before from after to = (vs : List ℤ) → Summed l vs before from → Summed l (vs ++ (v ∷ [])) after to
