-- A number has one form, in what is written and in what is read: `signed` writes what the text's numbers are read from, and nothing else is read as them.
-- Assumes nothing.
use mathlib.Core.Path.{◌≡◌, refl}
use mathlib.Core.Bool.{Bool, true, false, cond, not, ◌&&◌, ◌||◌}
use mathlib.Core.List.{List, [], ◌∷◌}
use Rattle.std.specs.Prelude.{Option, None, Some}
use Rattle.std.proofs.lemmas.Option.{none-some}
use Prim.Native.Nat.{ℕ, zero, suc, ◌<◌}
use native.Mathlib.Omega.{arith}
use native.Mathlib.Decide.{dec_lt}
use borrow.Author.Tests.{le-leb, ne_eqb, eqb-true, eqb-false}
use lib.Dec.{leb, eqb}
use lib.IntN.{ℤ, pos, negsuc, nat_abs}
use lib.ListN.{length, get_or}
use Rattle.lines.specs.Numbers.{decimal, unsigned, negated, plain, value_of}
use Rattle.writing.specs.Bytes.{digits_of, sign, signed_of}
use Rattle.writing.proofs.Digits.{digits_small, digits_length, one_digit}
use Rattle.writing.proofs.Forms.{DigitReader, First, first_digit, reads_back, only_form, only_digit, not_below}

reader : DigitReader decimal
unfolding decimal
reader = record { ends = λ n. refl; goes = λ n b bs. refl }

-- ---- what is written is read

or_true : (t : Bool) → t || true ≡ true
or_true true = refl
or_true false = refl

-- a zero stands in front only of a number that it is
no_spare_zero : (n : ℕ) → eqb (length (digits_of n)) 1 || not (eqb (get_or (digits_of n) 0 0) 48) ≡ true
no_spare_zero n = go (first_digit n) (dec_lt n 10)
  where
    go : First n → Dec (n < 10) → eqb (length (digits_of n)) 1 || not (eqb (get_or (digits_of n) 0 0) 48) ≡ true
    go f (yes l) = rw (digits_small n l)
    go f (no k) =
        let above : 48 < f.first = f.above (omega arith) in
        rw (f.digits, ne_eqb f.first 48 (λ e. omega arith)) (or_true (eqb (length (f.first ∷ f.rest)) 1))

unsigned_reads : (n : ℕ) → n < 100000 → unsigned (digits_of n) ≡ Some n
unfolding unsigned
unsigned_reads n h =
    rw (le-leb 1 (length (digits_of n)) (one_digit n), le-leb (length (digits_of n)) 5 (digits_length 4 n (omega arith)), no_spare_zero n) (reads_back decimal reader n)

pub written_reads : (z : ℤ) → nat_abs z < 100000 → value_of (signed_of z) ≡ Some z
unfolding value_of negated plain signed_of sign
written_reads (pos n) h =
    let f = first_digit n in
    let read : unsigned (f.first ∷ f.rest) ≡ Some n = rw f.digits at (unsigned_reads n h) in
    rw (f.digits, ne_eqb f.first 45 (λ e. omega (arith, f.low)), read)
written_reads (negsuc n) h = rw (unsigned_reads (suc n) h, ne_eqb (suc n) 0 (λ e. omega arith))

-- ---- what is read was written

several : (five naught : Bool) (b c : ℕ) (cs : List ℕ) (n : ℕ)
    → eqb b 48 ≡ naught
    → cond (five && not naught) (decimal 0 (b ∷ c ∷ cs)) None ≡ Some n
    → digits_of n ≡ b ∷ c ∷ cs
several true false b c cs n e q =
    let other : b ≡ 48 → ⊥ = eqb-false b 48 e in
    only_form decimal reader b (c ∷ cs) n (omega (arith, not_below decimal reader b (c ∷ cs) n q)) q
several true true b c cs n e q = absurd (none-some n q)
several false naught b c cs n e q = absurd (none-some n q)

unsigned_form : (w : List ℕ) (n : ℕ) → unsigned w ≡ Some n → digits_of n ≡ w
unfolding unsigned
unsigned_form [] n e = absurd (none-some n e)
unsigned_form (b ∷ []) n e = only_digit decimal reader b n e
unsigned_form (b ∷ c ∷ cs) n e =
    several (leb (length (b ∷ c ∷ cs)) 5) (eqb b 48) b c cs n refl
    (rw (le-leb 1 (length (b ∷ c ∷ cs)) (omega arith), ne_eqb (length (b ∷ c ∷ cs)) 1 (λ k. omega arith)) at e)

below_zero : (read : Option ℕ) (bs : List ℕ) (z : ℤ) → unsigned bs ≡ read → negated read ≡ Some z → signed_of z ≡ 45 ∷ bs
unfolding negated signed_of sign
below_zero None bs z u e = absurd (none-some z e)
below_zero (Some zero) bs z u e = absurd (none-some z e)
below_zero (Some (suc n)) bs z u e =
    let same : negsuc n ≡ z = cc (rw (ne_eqb (suc n) 0 (λ k. omega arith)) at e) in
    rw (← same, unsigned_form bs (suc n) u)

not_below_zero : (read : Option ℕ) (w : List ℕ) (z : ℤ) → unsigned w ≡ read → plain read ≡ Some z → signed_of z ≡ w
unfolding plain signed_of sign
not_below_zero None w z u e = absurd (none-some z e)
not_below_zero (Some n) w z u e =
    let same : pos n ≡ z = cc in
    rw (← same) (unsigned_form w n u)

by_sign : (minus : Bool) (b : ℕ) (bs : List ℕ) (z : ℤ)
    → eqb b 45 ≡ minus
    → cond minus (negated (unsigned bs)) (plain (unsigned (b ∷ bs))) ≡ Some z
    → signed_of z ≡ b ∷ bs
by_sign true b bs z e q = rw (eqb-true b 45 e) (below_zero (unsigned bs) bs z refl q)
by_sign false b bs z e q = not_below_zero (unsigned (b ∷ bs)) (b ∷ bs) z refl q

pub read_is_written : (w : List ℕ) (z : ℤ) → value_of w ≡ Some z → signed_of z ≡ w
unfolding value_of
read_is_written [] z e = absurd (none-some z e)
read_is_written (b ∷ bs) z e = by_sign (eqb b 45) b bs z refl e
