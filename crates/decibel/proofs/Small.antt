-- The logarithms of small numbers and of the squares of speeds: one computed test over each list of the crate `small_logs`, and what its function hands over.
-- Assumes nothing.
use mathlib.Core.Path.{◌≡◌, refl, sym, ◌∙◌, ap, subst}
use mathlib.Core.Bool.{Bool, not}
use Prim.Native.Nat.{ℕ, suc, ◌+◌, ◌*◌, ◌≤◌, ◌<◌, min}
use native.Mathlib.Nat.{lt_of_not-le, le_of_lt, mul-le-mul}
use native.Mathlib.Decide.{dec_le}
use native.Mathlib.Omega.{arith}
use lib.Dec.{T, ltb, ltb→lt, lt→ltb, lit≤}
use lib.ListN.{get_or}
use lib.IntN.{ℤ, pos, sub_ℕ}
use lib.Signed.{mag}
use mir.Syntax.{w64}
use mir.Val.{Fits}
use Rattle.small_logs.specs.declared.TheConstants.{SMALL_LOG, TWENTY_LOG}
use Rattle.small_logs.specs.Lists.{small_log_list, twenty_log_list}
use Rattle.small_logs.proofs.Arrays.{small_log_is, twenty_log_is}
use Rattle.decibel.specs.Greatest.{clamp}
use Rattle.decibel.specs.Round.{nearest}
use Rattle.decibel.specs.Fine.{most_number}
use Rattle.decibel.specs.Lookup.{ten_log, fence_at, lowest, highest, tenths_at, Tenth}
use Rattle.decibel.proofs.Tests.{reaches, both, Values}
use Rattle.decibel.proofs.Ints.{sub_is, from_parts}
use Rattle.decibel.proofs.Words.{kept, tenth_kept}
use Rattle.decibel.proofs.Greatest.{clamp_over, clamp-within}
use Rattle.decibel.proofs.Tenths.{reading}
use Rattle.decibel.proofs.Table.{both_left, both_right, values_tested}

-- 10 · log n reaches the tie below x tenths
abbrev reaches_tie : ℕ → ℕ → Bool
reaches_tie n x = reaches 2 200 n 1 (2 * x + 1)

-- it reaches the tie below and not the tie above
abbrev near_tenth : ℕ → ℕ → Bool
near_tenth n x = both (reaches_tie n x) (not (reaches_tie n (suc x)))

-- entry i is the tenth of f i, of 0 that of 1, and small
abbrev log_test : (ℕ → ℕ) → ℕ → ℕ → Bool
log_test f i x = both (ltb x 1000) (near_tenth (clamp 1 most_number (f i)) x)

near_decides : (n x : ℕ) → T (ltb 0 n) → T (near_tenth n x) → nearest (fence_at ten_log n) ≡ pos x
unfolding fence_at
near_decides n x p t =
    reading 0 50000 200 2 1 n 1 (suc x) (2 * x + 1) (2 * suc x + 1) tt p tt refl (omega arith) (omega arith)
    (both_left (reaches_tie n x) (not (reaches_tie n (suc x))) t)
    (both_right (reaches_tie n x) (not (reaches_tie n (suc x))) t)
    ∙ from_parts (sub_ℕ (suc x) 1) (pos x) (omega (arith, sub_is (suc x) 1))

-- x is the tenth of 10 · log n, and small
abbrev TenthOf : ℕ → ℕ → Type 0
TenthOf n x = (pos x ≡ tenths_at ten_log n) × (x < 1000)

log_right : (f : ℕ → ℕ) (i x : ℕ) → T (log_test f i x) → TenthOf (f i) x
unfolding tenths_at lowest highest
log_right f i x t =
    let n = clamp 1 most_number (f i) in
    let p : 0 < n = omega (arith, clamp-within 1 most_number (f i) (lit≤ tt)) in
    (sym (near_decides n x (lt→ltb 0 n p) (both_right (ltb x 1000) (near_tenth n x) t)), ltb→lt x 1000 (both_left (ltb x 1000) (near_tenth n x) t))

small_rule : Values TenthOf 200 SMALL_LOG
unfolding small_log_list reaches clamp
small_rule = subst (Values TenthOf 200) (sym small_log_is) (values_tested (log_test (λ i. i)) (log_right (λ i. i)) refl tt)

square_rule : Values (λ i x. TenthOf (i * i) x) 301 TWENTY_LOG
unfolding twenty_log_list reaches clamp
square_rule = subst (Values (λ i x. TenthOf (i * i) x) 301) (sym twenty_log_is) (values_tested (log_test (λ i. i * i)) (log_right (λ i. i * i)) refl tt)

-- what is handed over of an entry
handed : (n : ℕ) {x : ℕ} {r : ℤ} → TenthOf n x → r ≡ pos x → Tenth (tenths_at ten_log n) (kept r)
handed n t e = tenth_kept (record { is = e ∙ t.0; small = subst (λ (z : ℤ). mag z < 1000) (sym e) t.1 })

pub small_read : (n : ℕ) {r : ℤ} → n < 200 → r ≡ pos (get_or SMALL_LOG n 0) → Tenth (tenths_at ten_log n) (kept r)
small_read n h e = handed n (small_rule.rule n h) e

pub square_read : (v : ℕ) {r : ℤ} → v < 301 → r ≡ pos (get_or TWENTY_LOG v 0) → Tenth (tenths_at ten_log (v * v)) (kept r)
square_read v h e = handed (v * v) (square_rule.rule v h) e

-- ---- a number cut down to 60,000, whose square is beyond the range

square_over : (n : ℕ) → 60000 ≤ n → most_number ≡ clamp 1 most_number (n * n)
square_over n h = let m : 3600000000 ≤ n * n = mul-le-mul h h in clamp_over 1 most_number (n * n) (omega arith) (omega arith)

module _ (v : ℕ) {x : ℕ} (e : x ≡ min v 60000) where
  pub square_fits : Fits w64 (x * x)
  square_fits = let h : x ≤ 60000 = omega arith in omega (arith, mul-le-mul h h)

  square_same : tenths_at ten_log (x * x) ≡ tenths_at ten_log (v * v)
  unfolding tenths_at lowest highest
  square_same = go (dec_le v 60000)
    where
      go : Dec (v ≤ 60000) → tenths_at ten_log (x * x) ≡ tenths_at ten_log (v * v)
      go (yes h) = let s : x ≡ v = omega arith in ap (λ (k : ℕ). tenths_at ten_log (k * k)) s
      go (no h) =
          let l : 60000 < v = lt_of_not-le h in
          ap (λ (k : ℕ). nearest (fence_at ten_log k)) (sym (square_over x (omega arith)) ∙ square_over v (le_of_lt l))

  pub square_handed : {r : ℤ} → Tenth (tenths_at ten_log (x * x)) r → Tenth (tenths_at ten_log (v * v)) (kept r)
  square_handed {r} t = tenth_kept (subst (λ (z : ℤ). Tenth z r) square_same t)
