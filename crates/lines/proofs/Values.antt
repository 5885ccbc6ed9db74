-- Laws of the number that stands in front of some words, by its first byte.
-- Assumes nothing.
use Rattle.std.proofs.Common.{◌≡◌, ℕ, zero, suc, ◌+◌, ◌<◌, ◌≤◌, Bool, true, false, eqb, List, [], ◌∷◌, map, length, get_or, drop, ℤ, pos, ◌-ℤ◌, neg_ℤ, Bor, IsTrue, not, is_some, slice_get, option_copied, Option, None, Some, sym, refl, ap, ◌∙◌, arith, w32, SFits, to_z, of_z, to_z-of_z, ne_eqb, eqb-true, cond}
use lib.IntN.{+ℤ_idl}
use borrow.Author.Tests.{eqb-false}
use Rattle.lines.specs.Bytes.{until, past}
use Rattle.lines.specs.Numbers.{decimal, unsigned, negated, plain, value_of, values_of, values_left, first_number}
use Rattle.lines.specs.Private.{InFront}
use Rattle.lines.proofs.Bytes.{until_stop, until_end, until_skip, past_stop, past_end, parts_of, split_first}
use Rattle.lines.proofs.Digits.{word, word_other, Passed, unsigned_wrong, unsigned_long, unsigned_above, low_first, above_some, unsigned-zero, negated_low, signed}

-- the first word, then those after it
pub values_first : (words : List ℕ) → values_of words ≡ value_of (until 32 words) ∷ values_left (past 32 words)
unfolding values_of
values_first words = rw (split_first 32 words) (ap (λ (os : List (Option ℤ)). value_of (until 32 words) ∷ os) (go (past 32 words)))
  where
    go : (o : Option (List ℕ)) → map value_of (parts_of 32 o) ≡ values_left o
    go None = refl
    go (Some bs) = refl

value_none : (words : List ℕ) → value_of (until 32 words) ≡ None → first_number (values_of words) ≡ None
value_none words e = rw (values_first words, e)

value_some : (words : List ℕ) {v : ℤ} {rest : Option (List ℕ)} → value_of (until 32 words) ≡ Some v → past 32 words ≡ rest → InFront words v rest
value_some words e q = record { values = rw (values_first words, e, ← q); behind = q }

-- ---- above zero

module _ (words : List ℕ) (h : 0 < length words) (p : 48 < get_or words 0 0) where
  first_above : word words 0 ≡ get_or words 0 0 ∷ word words 1
  first_above = until_skip 32 words 0 h (λ e. omega arith)

  pub value_above : value_of (until 32 words) ≡ plain (unsigned (until 32 words))
  unfolding value_of
  value_above = rw (first_above, ne_eqb (get_or words 0 0) 45 (λ e. omega arith))

  above_digits : length (word words 0) ≤ 5 → unsigned (word words 0) ≡ decimal 0 (word words 0)
  above_digits l = rw first_above (unsigned_above _ _ p (rw first_above at l))

  module _ {v i : ℕ} (r : Passed words v i) where
    pub above_other : i < length words → (get_or words i 0 ≡ 32 → ⊥) → (48 ≤ get_or words i 0 → get_or words i 0 ≤ 57 → ⊥) → first_number (values_of words) ≡ None
    unfolding plain
    above_other l n a = value_none words (rw (value_above, unsigned_wrong (word words 0) (r.digits ∙ word_other words i v l n a)))

    pub above_long : i < length words → (get_or words i 0 ≡ 32 → ⊥) → 5 ≤ i → first_number (values_of words) ≡ None
    unfolding plain
    above_long l n a = value_none words (rw (value_above, unsigned_long (word words 0) (omega (arith, r.ends, ap length (until_skip 32 words i l n)))))

    above_ended : word words i ≡ [] → value_of (until 32 words) ≡ Some (to_z w32 v)
    unfolding plain decimal
    above_ended q =
        let d : unsigned (word words 0) ≡ Some v = above_digits (omega (arith, r.ends, r.few, ap length q)) ∙ r.digits ∙ ap (decimal v) q in
        rw (value_above, d, signed r)

    -- at a space, and at the end
    pub above_stop : i < length words → get_or words i 0 ≡ 32 → {rest : List ℕ} → rest ≡ drop (i + 1) words → InFront words (to_z w32 v) (Some rest)
    above_stop l e {rest} q =
        let left : past 32 words ≡ Some rest = rw (r.left, q) (past_stop 32 words i l e) in
        value_some words (above_ended (until_stop 32 words i l e)) left

    pub above_end : length words ≤ i → InFront words (to_z w32 v) None
    above_end l = value_some words (above_ended (until_end 32 words i l)) (r.left ∙ past_end 32 words i l)

-- ---- zero

module _ {words tail : List ℕ} {b : ℕ} (w : words ≡ b ∷ tail) (z : b ≡ 48) where
  zero_word : until 32 words ≡ 48 ∷ until 32 tail
  unfolding until
  zero_word = rw (w, z)

  zero_past : past 32 words ≡ past 32 tail
  unfolding past
  zero_past = rw (w, z)

  zero_alone : until 32 tail ≡ [] → value_of (until 32 words) ≡ Some (pos 0)
  unfolding value_of plain unsigned decimal
  zero_alone e = rw (zero_word, e)

  pub zero_stop : 0 < length tail → get_or tail 0 0 ≡ 32 → {rest : List ℕ} → rest ≡ drop 1 tail → InFront words (pos 0) (Some rest)
  zero_stop l e {rest} q =
      let left : past 32 words ≡ Some rest = zero_past ∙ rw q (past_stop 32 tail 0 l e) in
      value_some words (zero_alone (until_stop 32 tail 0 l e)) left

  pub zero_end : length tail ≤ 0 → InFront words (pos 0) None
  zero_end l = value_some words (zero_alone (until_end 32 tail 0 l)) (zero_past ∙ past_end 32 tail 0 l)

  pub zero_more : 0 < length tail → (get_or tail 0 0 ≡ 32 → ⊥) → first_number (values_of words) ≡ None
  unfolding value_of plain
  zero_more l n = value_none words (rw (zero_word, until_skip 32 tail 0 l n, unsigned-zero))

-- ---- below zero: with a minus and without

sign_none : (o : Option ℕ) → plain o ≡ None → negated o ≡ None
unfolding plain negated
sign_none None e = refl
sign_none (Some n) e = cc

module _ {v : ℤ} where
  sign_some : (o : Option ℕ) → ((n : ℕ) → o ≡ Some n → 0 < n) → plain o ≡ Some v → negated o ≡ Some (neg_ℤ v)
  unfolding plain negated
  sign_some None f e = cc
  sign_some (Some n) f e = rw (ne_eqb n 0 (λ z. omega (arith, f n refl))) (cc)

  -- an i32 that is not below zero has its negative
  sign_fits : (o : Option ℕ) → plain o ≡ Some v → SFits w32 v → SFits w32 (neg_ℤ v)
  unfolding plain
  sign_fits None e f = cc
  sign_fits (Some zero) e f = let q : v ≡ pos zero = cc in rw q (record { sfits = omega arith })
  sign_fits (Some (suc n)) e f = let q : v ≡ pos (suc n) = cc in rw q (record { sfits = omega (arith, rw q at f.sfits) })

module _ {words tail : List ℕ} {b : ℕ} (w : words ≡ b ∷ tail) (z : b ≡ 45) where
  value_below : value_of (until 32 words) ≡ negated (unsigned (until 32 tail))
  unfolding value_of until
  value_below = rw (w, z)

  pub below_end : None ≡ slice_get tail 0 → first_number (values_of words) ≡ None
  unfolding negated unsigned until
  below_end e = value_none words (value_below ∙ go tail e)
    where
      go : (s : List ℕ) → None ≡ slice_get s 0 → negated (unsigned (until 32 s)) ≡ None
      go [] q = refl
      go (x ∷ xs) q = cc

  -- no digit above zero stands after the minus
  pub below_low : 0 < length tail → get_or tail 0 0 ≤ 48 → first_number (values_of words) ≡ None
  unfolding negated unsigned
  below_low l a = value_none words (value_below ∙ go (eqb (get_or tail 0 0) 32) refl)
    where
      go : (t : Bool) → eqb (get_or tail 0 0) 32 ≡ t → negated (unsigned (until 32 tail)) ≡ None
      go true e = rw (until_stop 32 tail 0 l (eqb-true (get_or tail 0 0) 32 e))
      go false e = rw (until_skip 32 tail 0 l (eqb-false (get_or tail 0 0) 32 e)) (negated_low (get_or tail 0 0) (until 32 (drop 1 tail)) a)

  -- from what stands after the minus
  module _ (l : 0 < length tail) (p : 48 < get_or tail 0 0) where
    value_tail : first_number (values_of tail) ≡ plain (unsigned (until 32 tail))
    value_tail = rw (values_first tail) (value_above tail l p)

    pub below_none : first_number (values_of tail) ≡ None → first_number (values_of words) ≡ None
    below_none e = value_none words (value_below ∙ sign_none (unsigned (until 32 tail)) (sym value_tail ∙ e))

    module _ {v : ℤ} (rest : Option (List ℕ)) (e : InFront tail v rest) (f : SFits w32 v) where
      sign : plain (unsigned (until 32 tail)) ≡ Some v
      sign = sym value_tail ∙ ap first_number e.values

      fits : SFits w32 (neg_ℤ v)
      fits = sign_fits (unsigned (until 32 tail)) sign f

      pub below_fits : SFits w32 (pos 0 -ℤ to_z w32 (of_z w32 v))
      below_fits = rw (to_z-of_z f, +ℤ_idl) fits

      pub below_some : InFront words (to_z w32 (of_z w32 (pos 0 -ℤ to_z w32 (of_z w32 v)))) rest
      unfolding past
      below_some =
          let left : past 32 words ≡ past 32 tail = rw (w, z) refl in
          rw (to_z-of_z f, +ℤ_idl, to_z-of_z fits)
          (value_some words (value_below ∙ sign_some (unsigned (until 32 tail)) (λ n s. above_some _ _ p (rw (until_skip 32 tail 0 l (λ q. omega arith)) at s)) sign) (left ∙ e.behind))

-- ---- no number

pub none_empty : (words : List ℕ) → length words ≡ 0 → first_number (values_of words) ≡ None
unfolding value_of until
none_empty [] e = value_none [] refl
none_empty (b ∷ bs) e = absurd (omega arith)

-- no digit, and no minus
pub none_low : {words tail : List ℕ} {b : ℕ} → words ≡ b ∷ tail → b < 48 → (b ≡ 45 → ⊥) → first_number (values_of words) ≡ None
unfolding value_of plain until
none_low {words} {tail} {b} w l m = rw w (value_none (b ∷ tail) (go (eqb b 32) refl))
  where
    go : (t : Bool) → eqb b 32 ≡ t → value_of (cond t [] (b ∷ until 32 tail)) ≡ None
    go true e = refl
    go false e = rw (ne_eqb b 45 m, unsigned_wrong (b ∷ until 32 tail) (low_first b (until 32 tail) l))

-- ---- what is left

-- behind the last word
pub nothing_left : (o : Option (Bor (List ℕ))) {os : List (Option ℤ)} {b : Bool} → values_left (option_copied o) ≡ os → is_some o ≡ not b → (IsTrue b → os ≡ []) × (os ≡ [] → IsTrue b)
nothing_left None {os} {b} e q = go b q
  where
    go : (b : Bool) → false ≡ not b → (IsTrue b → os ≡ []) × (os ≡ [] → IsTrue b)
    go true q = (λ t. sym e, λ n. refl)
    go false q = cc
nothing_left (Some r) {os} {b} e q = go b q
  where
    go : (b : Bool) → true ≡ not b → (IsTrue b → os ≡ []) × (os ≡ [] → IsTrue b)
    go true q = cc
    go false q = (λ t. cc, λ n. cc (values_first r.now))
