-- `lookup_benchmark::benchmark_ten_logs_to` meets its contract.
use mathlib.Core.Path.{◌≡◌, refl, sym, ◌∙◌, ap}
use Prim.Native.Nat.{ℕ, zero, suc, ◌-◌, ◌≤◌}
use lib.IntN.{ℤ}
use native.Mathlib.Omega.{arith}
use Rattle.decibel.specs.Lookup.{ten_log, tenths_at, fence_at, lowest, highest, Tenth}
use Rattle.decibel.proofs.Words.{kept, tenth_kept}
use native.Mathlib.Nat.{mul-le-mul, pow-le-pow_left, le_refl}
use lib.Signed.{◌≤ℤ◌}
use Rattle.std.proofs.Common.{min, max, pos}
use Rattle.decibel.specs.Log.{AtLeast}
use Rattle.decibel.proofs.Exact.{fence_rises, at_least_fence}
use Rattle.decibel.specs.Round.{nearest}
use Rattle.decibel.proofs.Round.{nearest_rises}
use Rattle.decibel.proofs.Ints.{ints, from_parts}
use Rattle.std.specs.Int.{int_max}
use Rattle.std.proofs.lemmas.Int.{int_max_is}
use Rattle.decibel.proofs.Greatest.{clamp_is}
use Rattle.lookup_benchmark.specs.Last.{last_of}
use Rattle.lookup_benchmark.proofs.benchmark_ten_logs_to.Goals as goal

-- ---- a logarithm rises

rises : (m n : ℕ) → m ≤ n → tenths_at ten_log m ≤ℤ tenths_at ten_log n
unfolding tenths_at fence_at lowest highest
rises m n h =
    rw (← clamp_is 1 3200000000 m (omega arith), ← clamp_is 1 3200000000 n (omega arith)) (nearest_rises _ _ (fence_rises 0 10000000 1 (omega arith) (omega arith) (omega arith)))

at_least_zero : (s x : ℕ) → 1 ≤ x → AtLeast 0 s x 1 (pos 0)
unfolding AtLeast
at_least_zero s x h = mul-le-mul (pow-le-pow_left h s) (le_refl _)

not_below : (n : ℕ) → pos 0 ≤ℤ tenths_at ten_log n
unfolding tenths_at fence_at lowest highest nearest
not_below n =
    rw (← clamp_is 1 3200000000 n (omega arith)) (nearest_rises (pos 0) _ ((at_least_fence 0 10000000 (max 1 (min n 3200000000)) 1 (omega arith) (omega arith) (pos 0)).0 (at_least_zero 10000000 _ (omega arith))))

-- ---- so the last of the lookups is the largest

before_most : (n : ℕ) → last_of n ≤ℤ tenths_at ten_log (suc n)
unfolding last_of
before_most zero = not_below 1
before_most (suc n) = rises (suc n) (suc (suc n)) (omega arith)

largest_is : (x y : ℤ) → x ≤ℤ y → int_max x y ≡ y
largest_is x y h = from_parts (int_max x y) y (omega (arith, ints, int_max_is x y))

largest : (n m : ℕ) {before level r : ℤ} → 1 ≤ n → n ≡ m → before ≡ last_of (n - 1) → Tenth (tenths_at ten_log n) level → r ≡ int_max before (kept level) → kept r ≡ last_of m
unfolding last_of
largest zero m h e b t q = absurd (omega arith)
largest (suc n) m {before} {level} {r} h e b t q =
    let same : n ≡ suc n - 1 = omega arith in
    let low : before ≤ℤ kept level = rw (b ∙ ap last_of (sym same), (tenth_kept t).is) (before_most n) in
    let is : r ≡ level = q ∙ largest_is before (kept level) low ∙ (tenth_kept t).is ∙ sym t.is in
    ap kept is ∙ (tenth_kept t).is ∙ ap last_of e

pub loop-n-init : goal.loop-n-init
unfolding last_of
loop-n-init c = (omega arith, refl)

pub loop-n-preserved : goal.loop-n-preserved
loop-n-preserved c = (omega arith, largest c.loop-n.n _ (omega arith) (omega arith) c.loop-n.invariant.1 c.ten_log.ensures c.max-last.ensures.value)

pub returns : goal.returns
returns c = c.loop-n.invariant.1 ∙ ap last_of (omega arith)

pub returns-2 : goal.returns-2
returns-2 c = largest c.loop-n.n _ (omega arith) (omega arith) c.loop-n.invariant.1 c.ten_log.ensures c.max-last.ensures.value
