-- A number as a count, by its bits: what std's `try_from` says of it, and what `ok` and `map_err` then give.
-- Assumes nothing.
use Rattle.std.proofs.Common.{◌≡◌, ℕ, ◌<◌, ◌^◌, w32, SFits, to_z, of_z, to_z-of_z, nat_abs, ℤ, pos, negsuc, None, Some, Result, Ok, Err, MatchResult, refl, sym, ap, ◌∙◌, arith}
use lib.Signed.{mag}
use Rattle.std.specs.Int.{FitsUnsignedBits}
use Rattle.std.specs.Result.{OkIff, result_ok}
use Rattle.std.proofs.lemmas.Result.{Ok-from_Ok_iff, OkIff-at_ok}
use Rattle.figures.specs.declared.Refusal.{Refusal}
use Rattle.figures.specs.declared.Refusal.TheVariants as R

apart : {E : Type 0} {x : E} {n : ℕ} → ◌≡◌ {A = Result ℕ E} (Err x) (Ok n) → ⊥
apart e = cc

module _ {v : ℤ} (f : SFits w32 v) where
  abbrev read : ℤ
  read = to_z w32 (of_z w32 v)

  is_count : FitsUnsignedBits 64 read → v ≡ pos (nat_abs read)
  is_count p = rw (to_z-of_z f) (go v (rw (to_z-of_z f) at p))
    where
      go : (u : ℤ) → FitsUnsignedBits 64 u → u ≡ pos (nat_abs u)
      go (pos n) q = refl
      go (negsuc n) q = absurd q

  no_count : ¬ FitsUnsignedBits 64 read → (c : ℕ) → v ≡ pos c → ⊥
  no_count p c e =
      let small : mag v < 2 ^ 31 = f.sfits in
      let fits : FitsUnsignedBits 64 (pos c) = omega (arith, rw e at small) in
      p (rw (to_z-of_z f, e) fits)

  -- the number is tried
  abbrev Tried : {E : Type 0} → Result ℕ E → Type 0
  Tried r = OkIff r (FitsUnsignedBits 64 read) (nat_abs read)

  pub count_tried : {E : Type 0} (r : Result ℕ E) → Tried r → {c : ℕ} → Some c ≡ result_ok r → v ≡ pos c
  count_tried {E} (Ok n) t {c} e =
      let r : Result ℕ E = Ok n in
      let q = OkIff-at_ok r _ _ n t refl in
      let same : n ≡ c = cc in
      is_count q.0 ∙ ap pos (sym q.1 ∙ same)
  count_tried (Err x) t e = cc

  pub none_tried : {E : Type 0} (r : Result ℕ E) → Tried r → None ≡ result_ok r → (c : ℕ) → v ≡ pos c → ⊥
  none_tried (Ok n) t e = cc
  none_tried {E} (Err x) t e = no_count (λ p. apart {E = E} (Ok-from_Ok_iff (Err x) _ (nat_abs read) t p))

  -- and refused as 12 where it is no count
  abbrev Mapped : {E : Type 0} → Result ℕ E → Result ℕ Refusal → Type 0
  Mapped r m = MatchResult r (λ n. m ≡ Ok n) (λ x. m ≡ Err R.Form)

  pub count_mapped : {E : Type 0} (r : Result ℕ E) → Tried r → {m : Result ℕ Refusal} → Mapped r m → {c : ℕ} → m ≡ Ok c → v ≡ pos c
  count_mapped {E} (Ok n) t e {c} q = let same : c ≡ n = cc in count_tried {E = E} (Ok n) t (ap Some same)
  count_mapped (Err x) t e q = cc

  pub none_mapped : {E : Type 0} (r : Result ℕ E) → Tried r → {m : Result ℕ Refusal} → Mapped r m → {why : Refusal} → m ≡ Err why → (why ≡ R.Form) × ((c : ℕ) → v ≡ pos c → ⊥)
  none_mapped (Ok n) t e q = cc
  none_mapped (Err x) t e q = (cc, none_tried (Err x) t refl)
