-- Words and numbers as the bytes that are written for them. A byte is its number.
-- Assumes nothing.
use Rattle.std.specs.Prelude.{cond, List, [], ◌∷◌, ◌++◌, ℕ, zero, suc, ◌+◌, ◌/◌, ◌%◌, ltb, ℤ, pos, negsuc, nat_abs, leb, length, ◌-◌}
use Prim.Native.Char.{code}
use Prim.Native.String.{String, [] as done, ◌∷◌ as ◌then◌}

-- each character's ASCII code
abbrev pub ascii : String → List ℕ
ascii done = []
ascii (c then s) = code c ∷ ascii s

-- the digits before the last, where there are any, then the last
abbrev pub last_digit : ℕ → List ℕ → List ℕ
last_digit n before = cond (ltb n 10) [] before ++ ((48 + n % 10) ∷ [])

-- the last digits of a number, at most so many of them; where it has no more, none of them is a leading zero
unfoldable pub digits_within : ℕ → ℕ → List ℕ
digits_within zero n = []
digits_within (suc most) n = last_digit n (digits_within most (n / 10))

-- a number in decimal, for every number: it has no more digits than one above its value
unfoldable pub digits_of : ℕ → List ℕ
digits_of n = digits_within (suc n) n

-- a minus below zero
unfoldable pub sign : ℤ → List ℕ
sign (pos n) = []
sign (negsuc n) = ascii "-"

-- a signed number in decimal
unfoldable pub signed_of : ℤ → List ℕ
signed_of z = sign z ++ digits_of (nat_abs z)

-- so many tenths, with one decimal
unfoldable pub with_tenths : ℕ → List ℕ
with_tenths n = digits_of (n / 10) ++ (ascii "." ++ digits_of (n % 10))

-- a figure in tenths
unfoldable pub figure_of : ℤ → List ℕ
figure_of tenths = sign tenths ++ with_tenths (nat_abs tenths)

-- parts one after another, as far as there is room; from the first that has no room for all of it on, none follows, however short
unfoldable pub fitting : ℕ → List (List ℕ) → List ℕ
fitting room [] = []
fitting room (part ∷ rest) = cond (leb (length part) room) (part ++ fitting (room - length part) rest) []
