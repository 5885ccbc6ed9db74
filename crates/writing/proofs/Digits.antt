-- Laws of a number in decimal: its last digit and those before it, how many there are, and that they are what std writes.
-- Assumes nothing.
use mathlib.Core.Path.{◌≡◌, refl, sym, ◌∙◌}
use mathlib.Core.Bool.{Bool, true, false}
use mathlib.Core.List.{List, [], ◌∷◌, ◌++◌}
use Prim.Native.Nat.{ℕ, zero, suc, ◌+◌, ◌/◌, ◌%◌, ◌^◌, ◌<◌, ◌≤◌}
use native.Mathlib.Nat.{pow-succ'}
use native.Mathlib.Omega.{arith}
use borrow.Author.Tests.{lt-ltb, le-ltb, ltb-true, ltb-false}
use lib.Dec.{ltb}
use lib.ListN.{length, length-append}
use Rattle.std.specs.Fmt.{decimal}
use Rattle.std.proofs.lemmas.Fmt.{AppendsLastDigit, decimal_from_appends, length-decimal-le_succ}
use Rattle.writing.specs.Bytes.{last_digit, digits_within, digits_of}

last_alone : (n : ℕ) (before : List ℕ) → n < 10 → last_digit n before ≡ (48 + n) ∷ []
last_alone n before h = let e : n % 10 ≡ n = omega arith in rw (lt-ltb n 10 h, e)

last_after : (n : ℕ) (before : List ℕ) → 10 ≤ n → last_digit n before ≡ before ++ ((48 + n % 10) ∷ [])
last_after n before h = rw (le-ltb n 10 h)

-- only a number of two digits or more has digits before its last
last_agrees : (t : Bool) (n : ℕ) (x y : List ℕ) → ltb n 10 ≡ t → (10 ≤ n → x ≡ y) → last_digit n x ≡ last_digit n y
last_agrees true n x y e h = rw e
last_agrees false n x y e h = rw (h (ltb-false n 10 e))

-- more digits allowed than the number has change nothing
enough : (a b n : ℕ) → n < a → n < b → digits_within a n ≡ digits_within b n
unfolding digits_within
enough zero b n h k = absurd (omega arith)
enough (suc a) zero n h k = absurd (omega arith)
enough (suc a) (suc b) n h k =
    last_agrees (ltb n 10) n (digits_within a (n / 10)) (digits_within b (n / 10)) refl (λ big. enough a b (n / 10) (omega arith) (omega arith))

pub digits_small : (n : ℕ) → n < 10 → digits_of n ≡ (48 + n) ∷ []
unfolding digits_of digits_within
digits_small n h = last_alone n (digits_within n (n / 10)) h

pub digits_large : (n : ℕ) → 10 ≤ n → digits_of n ≡ digits_of (n / 10) ++ ((48 + n % 10) ∷ [])
unfolding digits_of digits_within
digits_large n h = last_after n (digits_within n (n / 10)) h ∙ rw (enough n (suc (n / 10)) (n / 10) (omega arith) (omega arith))

within : (t : Bool) (k n : ℕ) → ltb n 10 ≡ t → (10 ≤ n → length (digits_of (n / 10)) ≤ k) → length (digits_of n) ≤ suc k
within true k n e h = rw (digits_small n (ltb-true n 10 e)) (omega arith)
within false k n e h =
    let big : 10 ≤ n = ltb-false n 10 e in
    rw (digits_large n big) (simp length-append (omega (arith, h big)))

at_least : (t : Bool) (n : ℕ) → ltb n 10 ≡ t → 1 ≤ length (digits_of n)
at_least true n e = rw (digits_small n (ltb-true n 10 e)) (omega arith)
at_least false n e = rw (digits_large n (ltb-false n 10 e)) (simp length-append (omega arith))

pub one_digit : (n : ℕ) → 1 ≤ length (digits_of n)
one_digit n = at_least (ltb n 10) n refl

pub digits_length : (k n : ℕ) → n < 10 ^ suc k → length (digits_of n) ≤ suc k
digits_length zero n h = within (ltb n 10) zero n refl (λ big. absurd (omega arith))
digits_length (suc k) n h =
    within (ltb n 10) (suc k) n refl (λ big. digits_length k (n / 10) (omega (arith, pow-succ' 10 (suc k))))

-- ---- what std writes

appends : AppendsLastDigit digits_within
unfolding digits_within
appends =
    record {
      one = λ k n h. last_alone n (digits_within k (n / 10)) h;
      more = λ k n h. last_after n (digits_within k (n / 10)) h;
    }

pub decimal_is : (n : ℕ) → n < 2 ^ 64 → decimal n ≡ digits_of n
unfolding digits_of
decimal_is n h =
    let short : length (decimal n) ≤ suc n = omega (arith, length-decimal-le_succ n h) in
    sym (decimal_from_appends digits_within appends (suc n) n h short)
