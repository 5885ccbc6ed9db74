-- A number has one form: what is written of it is read back, and what is read without a spare leading zero is what would be written.
-- Stated for any reader of digits from the first to the last, so that it holds of the text's.
-- Assumes nothing.
use mathlib.Core.Path.{◌≡◌, refl, sym, ◌∙◌}
use mathlib.Core.Bool.{Bool, true, false, cond, ◌&&◌}
use mathlib.Core.List.{List, [], ◌∷◌, ◌++◌, append_assoc, append-nil}
use Rattle.std.specs.Prelude.{Option, None, Some}
use Rattle.std.proofs.lemmas.Option.{none-some}
use Prim.Native.Nat.{ℕ, zero, suc, ◌+◌, ◌-◌, ◌*◌, ◌/◌, ◌%◌, ◌<◌, ◌≤◌}
use native.Mathlib.Omega.{arith}
use native.Mathlib.Decide.{dec_lt}
use borrow.Author.Tests.{le-leb, leb-true}
use lib.Dec.{leb}
use Rattle.writing.specs.Bytes.{digits_of}
use Rattle.writing.proofs.Digits.{digits_small, digits_large}

-- what is written of a number begins with a digit, which is no zero where the number is none
pub record First (n : ℕ) : Type 0 where
  pub first : ℕ
  pub rest : List ℕ
  pub digits : digits_of n ≡ first ∷ rest
  pub low : 48 ≤ first
  pub high : first ≤ 57
  pub above : 0 < n → 48 < first

first_within : (fuel n : ℕ) → n < fuel → First n
first_within zero n h = absurd (omega arith)
first_within (suc fuel) n h = go (λ l. first_within fuel (n / 10) l) (dec_lt n 10)
  where
    go : (n / 10 < fuel → First (n / 10)) → Dec (n < 10) → First n
    go before (yes l) =
        record { first = 48 + n; rest = []; digits = digits_small n l; low = omega arith; high = omega arith; above = λ p. omega arith }
    go before (no f) =
        let b = before (omega arith) in
        record {
          first = b.first;
          rest = b.rest ++ ((48 + n % 10) ∷ []);
          digits = digits_large n (omega arith) ∙ rw b.digits;
          low = b.low;
          high = b.high;
          above = λ p. b.above (omega arith);
        }

pub first_digit : (n : ℕ) → First n
first_digit n = first_within (suc n) n (omega arith)

-- the value of digits that follow digits of the value so far; none where a byte is no digit
pub record DigitReader (read : ℕ → List ℕ → Option ℕ) : Type 0 where
  pub ends : (n : ℕ) → read n [] ≡ Some n
  pub goes : (n b : ℕ) (bs : List ℕ) → read n (b ∷ bs) ≡ cond (leb 48 b && leb b 57) (read (n * 10 + (b - 48)) bs) None

module _ (read : ℕ → List ℕ → Option ℕ) (reader : DigitReader read) where
  -- a byte that is read is a digit, and the rest is read after it
  pub record Digit (acc b : ℕ) (bs : List ℕ) (n : ℕ) : Type 0 where
    pub low : 48 ≤ b
    pub high : b ≤ 57
    pub rest : read (acc * 10 + (b - 48)) bs ≡ Some n

  digit_by : (low high : Bool) (acc b : ℕ) (bs : List ℕ) (n : ℕ)
      → leb 48 b ≡ low
      → leb b 57 ≡ high
      → cond (low && high) (read (acc * 10 + (b - 48)) bs) None ≡ Some n
      → Digit acc b bs n
  digit_by true true acc b bs n x y q = record { low = leb-true 48 b x; high = leb-true b 57 y; rest = q }
  digit_by true false acc b bs n x y q = absurd (none-some n q)
  digit_by false high acc b bs n x y q = absurd (none-some n q)

  digit : (acc b : ℕ) (bs : List ℕ) (n : ℕ) → read acc (b ∷ bs) ≡ Some n → Digit acc b bs n
  digit acc b bs n e = digit_by (leb 48 b) (leb b 57) acc b bs n refl refl (rw (reader.goes acc b bs) at e)

  -- digits that follow a number above zero are those that its own would be written with
  follows : (acc : ℕ) (bs : List ℕ) (n : ℕ) → 0 < acc → read acc bs ≡ Some n → digits_of n ≡ digits_of acc ++ bs
  follows acc [] n p e =
      let q : acc ≡ n = cc (e, reader.ends acc) in
      rw (← q) (sym (append-nil (digits_of acc)))
  follows acc (b ∷ bs) n p e =
      let d = digit acc b bs n e in
      let more : ℕ = acc * 10 + (b - 48) in
      let tens : more / 10 ≡ acc = omega (arith, d.low, d.high) in
      let ones : 48 + more % 10 ≡ b = omega (arith, d.low, d.high) in
      follows more bs n (omega arith) d.rest ∙ rw (digits_large more (omega arith), tens, ones) (append_assoc (digits_of acc) (b ∷ []) bs)

  -- what is written of a number, then more digits, reads as the number with these after it
  read_on : (fuel n : ℕ) (bs : List ℕ) → n < fuel → read 0 (digits_of n ++ bs) ≡ read n bs
  read_on zero n bs h = absurd (omega arith)
  read_on (suc fuel) n bs h = go (λ l. read_on fuel (n / 10) ((48 + n % 10) ∷ bs) l) (dec_lt n 10)
    where
      go : (n / 10 < fuel → read 0 (digits_of (n / 10) ++ ((48 + n % 10) ∷ bs)) ≡ read (n / 10) ((48 + n % 10) ∷ bs)) → Dec (n < 10) → read 0 (digits_of n ++ bs) ≡ read n bs
      go before (yes l) =
          let e : 0 * 10 + (48 + n - 48) ≡ n = omega arith in
          rw (digits_small n l, reader.goes 0 (48 + n) bs, le-leb 48 (48 + n) (omega arith), le-leb (48 + n) 57 (omega arith), e)
      go before (no f) =
          let e : n / 10 * 10 + (48 + n % 10 - 48) ≡ n = omega arith in
          rw (digits_large n (omega arith), append_assoc (digits_of (n / 10)) ((48 + n % 10) ∷ []) bs)
          (before (omega arith) ∙ rw (reader.goes (n / 10) (48 + n % 10) bs, le-leb 48 (48 + n % 10) (omega arith), le-leb (48 + n % 10) 57 (omega arith), e))

  pub reads_back : (n : ℕ) → read 0 (digits_of n) ≡ Some n
  reads_back n = rw (append-nil (digits_of n)) at (read_on (n + 1) n [] (omega arith)) ∙ reader.ends n

  -- a first digit that is no zero leaves one way to write the number
  pub only_form : (b : ℕ) (bs : List ℕ) (n : ℕ) → 48 < b → read 0 (b ∷ bs) ≡ Some n → digits_of n ≡ b ∷ bs
  only_form b bs n p e =
      let d = digit 0 b bs n e in
      let first : 0 * 10 + (b - 48) ≡ b - 48 = omega arith in
      let same : 48 + (b - 48) ≡ b = omega (arith, d.low) in
      follows (b - 48) bs n (omega arith) (rw first at d.rest) ∙ rw (digits_small (b - 48) (omega (arith, d.high)), same)

  -- and so does a digit by itself
  pub only_digit : (b n : ℕ) → read 0 (b ∷ []) ≡ Some n → digits_of n ≡ b ∷ []
  only_digit b n e =
      let d = digit 0 b [] n e in
      let value : 0 * 10 + (b - 48) ≡ n = cc (d.rest, reader.ends (0 * 10 + (b - 48))) in
      let same : 48 + n ≡ b = omega (arith, value, d.low) in
      digits_small n (omega (arith, value, d.high)) ∙ rw same

  pub not_below : (b : ℕ) (bs : List ℕ) (n : ℕ) → read 0 (b ∷ bs) ≡ Some n → 48 ≤ b
  not_below b bs n e = (digit 0 b bs n e).low
