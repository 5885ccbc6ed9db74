-- Laws of the parts of a list of bytes: where the first part ends, and what comes after it.
-- Assumes nothing.
use Rattle.std.proofs.Common.{◌≡◌, ℕ, zero, suc, ◌+◌, ◌-◌, ◌<◌, ◌≤◌, Bool, true, false, cond, eqb, List, [], ◌∷◌, length, get_or, take, drop, Option, None, Some, refl, ap, add-one, arith, length-drop, drop_of_length-le, drop-cons, eq-eqb, ne_eqb}
use Rattle.std.proofs.Math.Seq.{take_all}
use Rattle.memchr.specs.Find.{Passes, is_byte}
use Rattle.lines.specs.Bytes.{until, past, onto, split}

-- ---- the first separator

-- it stands at k
pub first_at : (sep : ℕ) (s : List ℕ) (k : ℕ) → k < length s → ((j : ℕ) → 0 ≤ j → j < k → ¬ Passes (is_byte sep) s j) → Passes (is_byte sep) s k
    → (until sep s ≡ take k s) × (past sep s ≡ Some (drop (suc k) s))
unfolding until past
first_at sep [] k h n e = absurd (omega arith)
first_at sep (b ∷ bs) zero h n e = rw e (refl, refl)
first_at sep (b ∷ bs) (suc k) h n e =
    go (first_at sep bs k (omega arith) (λ j l m. n (suc j) (omega arith) (omega arith)) e) (eqb b sep) refl
  where
    go : (until sep bs ≡ take k bs) × (past sep bs ≡ Some (drop (suc k) bs)) → (t : Bool) → eqb b sep ≡ t
        → (cond t [] (b ∷ until sep bs) ≡ b ∷ take k bs) × (cond t (Some bs) (past sep bs) ≡ Some (drop (suc k) bs))
    go rest true q = absurd (n 0 (omega arith) (omega arith) q)
    go rest false q = (ap {B = List ℕ} (λ r. b ∷ r) rest.0, rest.1)

-- there is none
pub none_at : (sep : ℕ) (s : List ℕ) → ((j : ℕ) → 0 ≤ j → j < length s → ¬ Passes (is_byte sep) s j) → (s ≡ until sep s) × (None ≡ past sep s)
unfolding until past
none_at sep [] n = (refl, refl)
none_at sep (b ∷ bs) n = go (none_at sep bs (λ j l m. n (suc j) (omega arith) (omega arith))) (eqb b sep) refl
  where
    go : (bs ≡ until sep bs) × (None ≡ past sep bs) → (t : Bool) → eqb b sep ≡ t → (b ∷ bs ≡ cond t [] (b ∷ until sep bs)) × (None ≡ cond t (Some bs) (past sep bs))
    go rest true q = absurd (n 0 (omega arith) (omega arith) q)
    go rest false q = (ap {B = List ℕ} (λ r. b ∷ r) rest.0, rest.1)

-- the bytes behind a place, as a slice up to the end has them
pub behind : (s : List ℕ) (k : ℕ) → take (length s - k) (drop k s) ≡ drop k s
behind s k = take_all (length s - k) (drop k s) (omega (arith, length-drop k s))

-- ---- from a place on

module _ (sep : ℕ) (s : List ℕ) (i : ℕ) where
  -- at a separator
  pub until_stop : i < length s → get_or s i 0 ≡ sep → until sep (drop i s) ≡ []
  unfolding until
  until_stop h e = rw (drop-cons s i 0, eq-eqb (get_or s i 0) sep e)

  pub past_stop : i < length s → get_or s i 0 ≡ sep → past sep (drop i s) ≡ Some (drop (i + 1) s)
  unfolding past
  past_stop h e = rw (add-one, drop-cons s i 0, eq-eqb (get_or s i 0) sep e)

  pub until_end : length s ≤ i → until sep (drop i s) ≡ []
  unfolding until
  until_end h = rw (drop_of_length-le s h)

  pub past_end : length s ≤ i → past sep (drop i s) ≡ None
  unfolding past
  past_end h = rw (drop_of_length-le s h)

  pub until_skip : i < length s → (get_or s i 0 ≡ sep → ⊥) → until sep (drop i s) ≡ get_or s i 0 ∷ until sep (drop (i + 1) s)
  unfolding until
  until_skip h n = rw (add-one, drop-cons s i 0, ne_eqb (get_or s i 0) sep n)

  pub past_skip : i < length s → (get_or s i 0 ≡ sep → ⊥) → past sep (drop i s) ≡ past sep (drop (i + 1) s)
  unfolding past
  past_skip h n = rw (add-one, drop-cons s i 0, ne_eqb (get_or s i 0) sep n)

-- ---- the parts

-- those behind a separator; none where there is none
abbrev pub parts_of : ℕ → Option (List ℕ) → List (List ℕ)
parts_of sep None = []
parts_of sep (Some bs) = split sep bs

pub split_first : (sep : ℕ) (l : List ℕ) → split sep l ≡ until sep l ∷ parts_of sep (past sep l)
unfolding split until past onto
split_first sep [] = refl
split_first sep (b ∷ bs) = go (split_first sep bs) (eqb b sep)
  where
    go : split sep bs ≡ until sep bs ∷ parts_of sep (past sep bs) → (t : Bool)
        → cond t ([] ∷ split sep bs) (onto b (split sep bs))
        ≡ cond t [] (b ∷ until sep bs)
        ∷ parts_of sep (cond t (Some bs) (past sep bs))
    go h true = refl
    go h false = rw h
