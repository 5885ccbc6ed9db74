-- How long what is said of a refusal is at most, and that its parts are written so.
-- Assumes nothing.
use mathlib.Core.Path.{◌≡◌, refl}
use mathlib.Core.List.{List, [], ◌∷◌, append-nil, flatten}
use Prim.Native.Nat.{ℕ, ◌<◌, ◌≤◌, ◌^◌}
use native.Mathlib.Omega.{arith}
use lib.ListN.{length, length-append}
use Rattle.std.specs.Fmt.{decimal}
use Rattle.figures.specs.declared.Refusal.{Refusal}
use Rattle.figures.specs.declared.Refusal.TheVariants.{Distance, Height, Ground, Angle, Screen, Shadow, Reading, Row, Speed, Vehicles, Trains, Form, Contents, NoSegment, SegmentLimit, EntryLimit, NoEntry, FewCells, EntryNumber, NoSpeed}
use Rattle.figures.specs.Refusal.{number_of}
use Rattle.writing.specs.Bytes.{ascii, fitting, digits_of}
use Rattle.writing.proofs.Digits.{digits_length, decimal_is}
use Rattle.writing.proofs.Concatenation.{fits_as}
use Rattle.words.specs.Words.{words_of, refused_of, notice_of}

-- no refusal is above two digits, and none is told at length
record Short (r : Refusal) : Type 0 where
  number : number_of r < 100
  words : length (words_of r) ≤ 400

short : (r : Refusal) → Short r
unfolding number_of words_of
short Distance = record { number = omega arith; words = omega arith }
short Height = record { number = omega arith; words = omega arith }
short Ground = record { number = omega arith; words = omega arith }
short Angle = record { number = omega arith; words = omega arith }
short Screen = record { number = omega arith; words = omega arith }
short Shadow = record { number = omega arith; words = omega arith }
short Reading = record { number = omega arith; words = omega arith }
short Row = record { number = omega arith; words = omega arith }
short Speed = record { number = omega arith; words = omega arith }
short Vehicles = record { number = omega arith; words = omega arith }
short Trains = record { number = omega arith; words = omega arith }
short Form = record { number = omega arith; words = omega arith }
short Contents = record { number = omega arith; words = omega arith }
short NoSegment = record { number = omega arith; words = omega arith }
short SegmentLimit = record { number = omega arith; words = omega arith }
short EntryLimit = record { number = omega arith; words = omega arith }
short NoEntry = record { number = omega arith; words = omega arith }
short FewCells = record { number = omega arith; words = omega arith }
short EntryNumber = record { number = omega arith; words = omega arith }
short NoSpeed = record { number = omega arith; words = omega arith }

pub refused_length : (r : Refusal) (line : ℕ) → line < 2 ^ 64 → length (refused_of r line) ≤ 36
unfolding refused_of flatten
refused_length r line h =
    simp (length-append, append-nil) (omega (arith, digits_length 1 (number_of r) (omega (arith, (short r).number)), digits_length 19 line (omega arith)))

pub notice_length : (r : Refusal) (line : ℕ) → line < 2 ^ 64 → length (notice_of r line) ≤ 450
unfolding notice_of flatten
notice_length r line h = simp (length-append, append-nil) (omega (arith, refused_length r line h, (short r).words))

-- ---- put together from their parts: there is room for all of them

refused_parts : (r : Refusal) (line : ℕ) → flatten (ascii "refused " ∷ digits_of (number_of r) ∷ ascii " line " ∷ digits_of line ∷ []) ≡ refused_of r line
unfolding refused_of
refused_parts r line = refl

pub refused_is : (r : Refusal) (line : ℕ) {number : ℕ} {told placed : List ℕ}
    → line < 2 ^ 64
    → number ≡ number_of r
    → told ≡ decimal number
    → placed ≡ decimal line
    → fitting 36 (ascii "refused " ∷ told ∷ ascii " line " ∷ placed ∷ []) ≡ refused_of r line
refused_is r line h n t p =
    rw (t, p, n, decimal_is (number_of r) (omega (arith, (short r).number)), decimal_is line h)
    (fits_as 36 (ascii "refused " ∷ digits_of (number_of r) ∷ ascii " line " ∷ digits_of line ∷ []) (refused_parts r line) (refused_length r line h))

notice_parts : (r : Refusal) (line : ℕ) → flatten (ascii "railnoise: " ∷ refused_of r line ∷ ascii ": " ∷ words_of r ∷ ascii "\n" ∷ []) ≡ notice_of r line
unfolding notice_of
notice_parts r line = refl

pub notice_is : (r : Refusal) (line : ℕ) {refused words : List ℕ}
    → line < 2 ^ 64
    → refused ≡ refused_of r line
    → words ≡ words_of r
    → fitting 450 (ascii "railnoise: " ∷ refused ∷ ascii ": " ∷ words ∷ ascii "\n" ∷ []) ≡ notice_of r line
notice_is r line h e w =
    rw (e, w) (fits_as 450 (ascii "railnoise: " ∷ refused_of r line ∷ ascii ": " ∷ words_of r ∷ ascii "\n" ∷ []) (notice_parts r line) (notice_length r line h))
