-- A line of so many fields, one number after another: what each way out of the reading says of the whole line.
-- Assumes nothing.
use Rattle.std.proofs.Common.{◌≡◌, ℕ, zero, suc, ◌-◌, ◌^◌, ◌<◌, IsTrue, w32, to_z, of_z, to_z-of_z, Bool, true, false, cond, eqb, List, [], ◌∷◌, length, ℤ, Option, None, Some, sym, refl, ap, ◌∙◌, arith, ne_eqb}
use Prim.Native.Nat.compare.{suc-suc}
use lib.Signed.{mag}
use Rattle.std.specs.Bool.{then_some}
use Rattle.lines.specs.Numbers.{front, all_of, exactly, first_number, after_number}

-- the numbers of so many words, where there are no more
pub fields : ℕ → List (Option ℤ) → Option (List ℤ)
fields zero [] = Some []
fields zero (o ∷ os) = None
fields (suc n) [] = None
fields (suc n) (None ∷ os) = None
fields (suc n) (Some v ∷ os) = front v (fields n os)

pub fields_are : (n : ℕ) (os : List (Option ℤ)) → exactly n (all_of os) ≡ fields n os
unfolding exactly all_of fields front
fields_are zero [] = refl
fields_are zero (None ∷ os) = refl
fields_are zero (Some v ∷ os) = go (all_of os)
  where
    go : (o : Option (List ℤ)) → exactly 0 (front v o) ≡ None
    go None = refl
    go (Some vs) = rw (ne_eqb (suc (length vs)) 0 (λ e. omega arith))
fields_are (suc n) [] = rw (ne_eqb 0 (suc n) (λ e. omega arith))
fields_are (suc n) (None ∷ os) = refl
fields_are (suc n) (Some v ∷ os) = go (all_of os) (fields_are n os)
  where
    go : (o : Option (List ℤ)) → exactly n o ≡ fields n os → exactly (suc n) (front v o) ≡ front v (fields n os)
    go None e = rw (← e)
    go (Some vs) e = rw (← e, suc-suc) (by (eqb (length vs) n))
      where
        by : (t : Bool) → cond t (Some (v ∷ vs)) None ≡ front v (cond t (Some vs) None)
        by true = refl
        by false = refl

module _ (n : ℕ) (os : List (Option ℤ)) (h : 0 < n) where
  -- a word that is missing or no number
  pub lacking : None ≡ first_number os → fields n os ≡ None
  unfolding fields
  lacking e = go n os h e
    where
      go : (n : ℕ) (os : List (Option ℤ)) → 0 < n → None ≡ first_number os → fields n os ≡ None
      go zero os h e = absurd (omega arith)
      go (suc n) [] h e = refl
      go (suc n) (None ∷ os) h e = refl
      go (suc n) (Some v ∷ os) h e = cc

  -- a number, and what comes after it
  pub passed : {rest : List (Option ℤ)} {v : ℤ} → Some v ≡ first_number os → rest ≡ after_number os → fields n os ≡ front v (fields (n - 1) rest)
  unfolding fields
  passed {rest} {v} e q = go n os h e q
    where
      go : (n : ℕ) (os : List (Option ℤ)) → 0 < n → Some v ≡ first_number os → rest ≡ after_number os → fields n os ≡ front v (fields (n - 1) rest)
      go zero os h e q = absurd (omega arith)
      go (suc n) [] h e q = cc
      go (suc n) (None ∷ os) h e q = cc
      go (suc n) (Some u ∷ os) h e q = let z : v ≡ u = cc in let k : suc n - 1 ≡ n = omega arith in rw (q, z, k) refl

  pub passed_none : {rest : List (Option ℤ)} {v : ℤ} → Some v ≡ first_number os → rest ≡ after_number os → fields (n - 1) rest ≡ None → fields n os ≡ None
  unfolding front
  passed_none e q f = rw (passed e q, f)

-- ---- all of them

-- a signed number that was passed as an i32: its bits, read back
abbrev pub back : ℤ → ℤ
back v = to_z w32 (of_z w32 v)

pub through : {v : ℤ} → mag v < 2 ^ 31 → v ≡ back v
through {v} h = sym (to_z-of_z {w = w32} {z = v} (record { sfits = h }))

pub read : (n : ℕ) (os : List (Option ℤ)) {rest : List (Option ℤ)} {v : ℤ} → 0 < n → record { number : Some v ≡ first_number os; left : rest ≡ after_number os } → mag v < 2 ^ 31
    → fields n os ≡ front (back v) (fields (n - 1) rest)
read n os {rest} {v} h e f = passed n os h e.number e.left ∙ ap (λ (u : ℤ). front u (fields (n - 1) rest)) (through {v = v} f)

-- no word is left, or one too many
pub ended : {os : List (Option ℤ)} (b : Bool) → (IsTrue b → os ≡ []) × (os ≡ [] → IsTrue b) → fields 0 os ≡ then_some b []
unfolding fields
ended {os} b e = go os b e
  where
    go : (os : List (Option ℤ)) (b : Bool) → (IsTrue b → os ≡ []) × (os ≡ [] → IsTrue b) → fields 0 os ≡ then_some b []
    go [] true e = refl
    go [] false e = cc (e.1 refl)
    go (o ∷ os) true e = cc (e.0 refl)
    go (o ∷ os) false e = refl

pub front_then : (b : Bool) (v : ℤ) (vs : List ℤ) → front v (then_some b vs) ≡ then_some b (v ∷ vs)
unfolding front
front_then true v vs = refl
front_then false v vs = refl

-- what is made of them, where there are no more
pub made : {A : Type 0} {x : A} (b : Bool) (F : Option (List ℤ) → Option A) (vs : List ℤ) → F None ≡ None → F (Some vs) ≡ Some x → then_some b x ≡ F (then_some b vs)
made true F vs e f = sym f
made false F vs e f = sym e
