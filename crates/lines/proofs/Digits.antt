-- Laws of the digits of the first word: one at a time, and one to five of them as a number without a sign.
-- Assumes nothing.
use Rattle.std.proofs.Common.{◌≡◌, ℕ, suc, ◌+◌, ◌-◌, ◌*◌, ◌^◌, ◌<◌, ◌≤◌, Bool, true, false, cond, not, ◌&&◌, ◌||◌, eqb, leb, List, [], ◌∷◌, length, get_or, drop, pos, None, Some, refl, ap, ◌∙◌, lt_of_lt_of_le, pow-suc, arith, lit<, w32, SFits, to_z, ne_eqb, eqb-true, le-leb, leb-true}
use mathlib.Core.Bool.{and-false, or-true}
use native.Mathlib.Nat.{pow-le-pow_right}
use mir.Facts.{to_z_pos}
use borrow.Author.Tests.{eqb-false, lt-leb}
use Rattle.lines.specs.Bytes.{until, past}
use Rattle.lines.specs.Numbers.{decimal, unsigned, negated}
use Rattle.lines.proofs.Bytes.{until_skip, past_skip}

-- the first word from a place on
abbrev pub word : List ℕ → ℕ → List ℕ
word words i = until 32 (drop i words)

-- ---- digits, one at a time

module _ (words : List ℕ) (i v : ℕ) (h : i < length words) where
  word_digit : 48 ≤ get_or words i 0 → get_or words i 0 ≤ 57 → decimal v (word words i) ≡ decimal (v * 10 + (get_or words i 0 - 48)) (word words (i + 1))
  unfolding decimal
  word_digit a b = rw (until_skip 32 words i h (λ e. omega arith), le-leb 48 (get_or words i 0) a, le-leb (get_or words i 0) 57 b)

  pub word_other : (get_or words i 0 ≡ 32 → ⊥) → (48 ≤ get_or words i 0 → get_or words i 0 ≤ 57 → ⊥) → decimal v (word words i) ≡ None
  unfolding decimal
  word_other n d = rw (until_skip 32 words i h n) (go (leb 48 (get_or words i 0)) (leb (get_or words i 0) 57) refl refl)
    where
      go : (s t : Bool) → leb 48 (get_or words i 0) ≡ s → leb (get_or words i 0) 57 ≡ t → cond (s && t) (decimal (v * 10 + (get_or words i 0 - 48)) (word words (i + 1))) None ≡ None
      go true true e q = absurd (d (leb-true 48 (get_or words i 0) e) (leb-true (get_or words i 0) 57 q))
      go true false e q = refl
      go false t e q = refl

-- a first byte below the digits
pub low_first : (b : ℕ) (bs : List ℕ) → b < 48 → decimal 0 (b ∷ bs) ≡ None
unfolding decimal
low_first b bs h = rw (lt-leb 48 b h)

-- more digits make no less
decimal_grows : (acc : ℕ) (w : List ℕ) {n : ℕ} → decimal acc w ≡ Some n → acc ≤ n
unfolding decimal
decimal_grows acc [] {n} e = let q : acc ≡ n = cc in omega arith
decimal_grows acc (b ∷ bs) {n} e = go (λ q. decimal_grows (acc * 10 + (b - 48)) bs q) (leb 48 b && leb b 57) e
  where
    go : (decimal (acc * 10 + (b - 48)) bs ≡ Some n → acc * 10 + (b - 48) ≤ n) → (t : Bool)
        → cond t (decimal (acc * 10 + (b - 48)) bs) None ≡ Some n → acc ≤ n
    go f true q = omega (arith, f q)
    go f false q = cc

-- the first i bytes are digits, at most five, of the value v
pub record Passed (words : List ℕ) (v i : ℕ) : Type 0 where
  pub few : i ≤ 5
  pub small : v < 10 ^ i
  pub digits : decimal 0 (word words 0) ≡ decimal v (word words i)
  pub ends : length (word words 0) ≡ i + length (word words i)
  pub left : past 32 words ≡ past 32 (drop i words)

module _ {words : List ℕ} {v i : ℕ} (r : Passed words v i) where
  -- a value of five digits, and one before the fifth
  below_five : v < 100000
  below_five = lt_of_lt_of_le r.small (pow-le-pow_right {n = 10} (lit< tt) {j = 5} r.few)

  signed_fits : SFits w32 (pos v)
  signed_fits = record { sfits = omega (arith, below_five) }

  pub signed : to_z w32 v ≡ pos v
  signed = to_z_pos w32 signed_fits.sfits

  pub passed_more : i < length words → i < 5 → {d : ℕ} → get_or words i 0 ≡ d + 48 → d ≤ 9 → Passed words (v * 10 + d) (i + 1)
  passed_more h l {d} e n =
      let z : get_or words i 0 - 48 ≡ d = omega arith in
      let k : i + 1 ≡ suc i = omega arith in
      record {
        few = omega arith;
        small = rw (k, pow-suc 10 i) (omega (arith, r.small));
        digits = r.digits ∙ word_digit words i v h (omega arith) (omega arith) ∙ rw z;
        ends = omega (arith, r.ends, ap length (until_skip 32 words i h (λ q. omega arith)));
        left = r.left ∙ past_skip 32 words i h (λ q. omega arith);
      }

-- ---- one to five digits

-- one to five bytes, and no spare leading zero
abbrev right_form : List ℕ → Bool
right_form w = leb 1 (length w) && leb (length w) 5 && (eqb (length w) 1 || not (eqb (get_or w 0 0) 48))

pub unsigned_wrong : (w : List ℕ) → decimal 0 w ≡ None → unsigned w ≡ None
unfolding unsigned
unsigned_wrong w e = go (right_form w)
  where
    go : (t : Bool) → cond t (decimal 0 w) None ≡ None
    go true = e
    go false = refl

pub unsigned_long : (w : List ℕ) → 5 < length w → unsigned w ≡ None
unfolding unsigned
unsigned_long w e = rw (le-leb 1 (length w) (omega arith), lt-leb (length w) 5 e)

-- a first digit above zero
pub unsigned_above : (b : ℕ) (bs : List ℕ) → 48 < b → suc (length bs) ≤ 5 → unsigned (b ∷ bs) ≡ decimal 0 (b ∷ bs)
unfolding unsigned
unsigned_above b bs p l = rw (le-leb 1 (suc (length bs)) (omega arith), le-leb (suc (length bs)) 5 l, ne_eqb b 48 (λ e. omega arith), or-true)

pub above_some : (b : ℕ) (bs : List ℕ) {n : ℕ} → 48 < b → unsigned (b ∷ bs) ≡ Some n → 0 < n
unfolding unsigned decimal
above_some b bs {n} p e = go (right_form (b ∷ bs)) (leb 48 b && leb b 57) e
  where
    go : (t u : Bool) → cond t (cond u (decimal (0 * 10 + (b - 48)) bs) None) None ≡ Some n → 0 < n
    go true true q = omega (arith, decimal_grows (0 * 10 + (b - 48)) bs q)
    go true false q = cc
    go false u q = cc

-- a zero in front of more
pub unsigned-zero : (b : ℕ) (bs : List ℕ) → unsigned (48 ∷ b ∷ bs) ≡ None
unfolding unsigned
unsigned-zero b bs = rw (ne_eqb (suc (suc (length bs))) 1 (λ e. omega arith), and-false)

-- after a minus, a first byte that is no digit above zero makes no number
pub negated_low : (b : ℕ) (bs : List ℕ) → b ≤ 48 → negated (unsigned (b ∷ bs)) ≡ None
unfolding negated unsigned decimal
negated_low b bs h = go (eqb b 48) refl bs
  where
    go : (t : Bool) → eqb b 48 ≡ t → (bs : List ℕ) → negated (unsigned (b ∷ bs)) ≡ None
    go true e [] = rw (eqb-true b 48 e)
    go true e (d ∷ ds) = rw (eqb-true b 48 e, unsigned-zero d ds)
    go false e bs = rw (unsigned_wrong (b ∷ bs) (rw (lt-leb 48 b (omega (arith, eqb-false b 48 e)))))
