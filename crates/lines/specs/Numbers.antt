-- Numbers of a text and of a line (01, "The text": "Numbers have one to five digits, a minus if below zero, no spare leading zero, no minus zero; one space between").
-- Assumes nothing.
use Rattle.std.specs.Prelude.{ℕ, ◌+◌, ◌-◌, ◌*◌, cond, not, ◌&&◌, ◌||◌, List, [], ◌∷◌, map, length, drop, ℤ, pos, neg_ℤ, Option, None, Some, ◌==◌, nat_le, slice_index}
use Rattle.lines.specs.Bytes.{until, split}

-- the value of decimal digits that follow digits of the value acc; none where a byte is no digit
unfoldable pub decimal : ℕ → List ℕ → Option ℕ
decimal acc [] = Some acc
decimal acc (b ∷ bs) = cond (nat_le 48 b && nat_le b 57) (decimal (acc * 10 + (b - 48)) bs) None

-- one to five digits; a zero stands in front only where it is the one digit
unfoldable pub unsigned : List ℕ → Option ℕ
unsigned w =
    cond (nat_le 1 (length w) && nat_le (length w) 5 && (length w == 1 || not (slice_index w 0 == 48)))
    (decimal 0 w)
    None

-- after a minus: below zero, so no zero
unfoldable pub negated : Option ℕ → Option ℤ
negated None = None
negated (Some n) = cond (n == 0) None (Some (neg_ℤ (pos n)))

unfoldable pub plain : Option ℕ → Option ℤ
plain None = None
plain (Some n) = Some (pos n)

-- the number that a word is, 45 being the minus; none where it is no number
unfoldable pub value_of : List ℕ → Option ℤ
value_of [] = None
value_of (b ∷ bs) = cond (b == 45) (negated (unsigned bs)) (plain (unsigned (b ∷ bs)))

-- one more in front of a list that is there
unfoldable pub front : {A : Type 0} → A → Option (List A) → Option (List A)
front v None = None
front v (Some vs) = Some (v ∷ vs)

-- all of them, where each is there
unfoldable pub all_of : List (Option ℤ) → Option (List ℤ)
unfolding front
all_of [] = Some []
all_of (None ∷ os) = None
all_of (Some v ∷ os) = front v (all_of os)

-- what each word of a line is, one space between them
unfoldable pub values_of : List ℕ → List (Option ℤ)
values_of line = map value_of (split 32 line)

-- the numbers of a line; none where any word is no number
unfoldable pub numbers_of : List ℕ → Option (List ℤ)
numbers_of line = all_of (values_of line)

-- "A line of another number count is 12": none unless there are n
unfoldable pub exactly : ℕ → Option (List ℤ) → Option (List ℤ)
exactly n None = None
exactly n (Some vs) = cond (length vs == n) (Some vs) None

-- ---- one after another

-- what each word is of what is left of a line: behind its last word nothing is
abbrev pub values_left : Option (List ℕ) → List (Option ℤ)
values_left None = []
values_left (Some words) = values_of words

-- the next number; none where no word is left or the next one is no number
abbrev pub first_number : List (Option ℤ) → Option ℤ
first_number [] = None
first_number (o ∷ os) = o

-- a word that is no number is not passed
abbrev pub after_number : List (Option ℤ) → List (Option ℤ)
after_number [] = []
after_number (None ∷ os) = None ∷ os
after_number (Some v ∷ os) = os

-- ---- by its place

-- a number with the place after it, where there is a number
unfoldable pub number_as : Option ℤ → ℕ → Option (ℤ × ℕ)
number_as None next = None
number_as (Some v) next = Some (v, next)

-- what is read at a place of a line: the number of the word that starts there, with the place behind the space that ends it.
-- The line's end counts as such a space: the place after the last word is one past the length, where nothing is read.
unfoldable pub number_at : List ℕ → ℕ → Option (ℤ × ℕ)
number_at line at =
    cond (nat_le at (length line))
    (number_as (value_of (until 32 (drop at line))) (at + length (until 32 (drop at line)) + 1))
    None
