-- A list held in an array of fixed size: how the arrays of a study and its plan tell each other.
-- Assumes nothing.
use Rattle.std.specs.Prelude.{◌≡◌, List, ◌++◌, ℕ, ◌-◌, ◌≤◌, length, take, replicate}

-- the elements in the places that are taken, the first ones
abbrev pub held_by : {A : Type 0} → ℕ → List A → List A
held_by count places = take count places

-- the array of so many places that holds a list, with a blank in each place past it
abbrev pub laid_out : {A : Type 0} → ℕ → A → List A → List A
laid_out most blank items = items ++ replicate (most - length items) blank

-- an array's places, so many of them taken, and a blank in each of the others
pub record Held {A : Type 0} (most : ℕ) (blank : A) (count : ℕ) (places : List A) : Type 0 where
  pub room : count ≤ most
  pub whole : length places ≡ most
  pub rest : laid_out most blank (held_by count places) ≡ places
