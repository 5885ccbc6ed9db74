-- The rule of each array of the crate `energy_tables`, by one test that antt computes over the whole of its list, and what is read by it.
-- Assumes nothing.
use mathlib.Core.Path.{◌≡◌, refl, sym, ap, ap₂, ◌∙◌, subst}
use mathlib.Core.Bool.{Bool}
use Prim.Native.Nat.{ℕ, zero, suc, ◌+◌, ◌*◌, ◌-◌, ◌/◌, ◌%◌, ◌^◌, ◌≤◌, ◌<◌, zero-le}
use native.Mathlib.Nat.{le_trans, lt_of_lt_of_le, lt_of_le_of_lt, lt_irrefl, mod-lt, zero-lt-suc, pow-le-pow_left, mul-le-mul_right}
use native.Mathlib.Numerals.{add-one}
use native.Mathlib.Omega.{arith}
use lib.Dec.{T, leb, ltb, eqb, leb→le, le→leb, ltb→lt, eqb→eq, lit<}
use lib.IntN.{ℤ, negsuc}
use lib.Signed.{◌≤ℤ◌, ◌<ℤ◌}
use lib.ListN.{get_or}
use Rattle.decibel.specs.Greatest.{greatest}
use Rattle.decibel.specs.Private.{Sought, Between}
use Rattle.energy_tables.specs.declared.TheConstants.{WEIGHT, POWER, MARK_BEGIN, MARK_END}
use Rattle.energy_tables.proofs.Arrays.{weight_is, power_is, mark_begin_is, mark_end_is}
use Rattle.std.specs.List.Sorted.{IsNonDecreasing}
use Rattle.std.proofs.lemmas.List.Sorted.{IsNonDecreasingBy-from_default}
use Rattle.energy_tables.specs.Lists.{weight_list, power_list, mark_begin_list, mark_end_list}
use Rattle.decibel.proofs.Tests.{both, Values}
use Rattle.decibel.proofs.Table.{both_left, both_right, values_tested}
use Rattle.decibel.proofs.Greatest.{greatest_is}
use Rattle.energy.specs.Mark.{weight_of, raised_unit, begin_of, end_of, passed_of}
use Rattle.energy.specs.Private.{Bounded, height_at, weight_at}
use Rattle.energy.proofs.Weighing.{unit, weight_most, weight_cut, weight_none}
use Rattle.energy.proofs.Cells.{weight_silent, weight_heard}
use Rattle.energy.proofs.Thresholds.{begin_rises, passed_is}

-- ---- tests that are computed over a whole table

-- x is the greatest number up to a bound whose power is at most b
abbrev greatest_test : (ℕ → ℕ) → ℕ → ℕ → ℕ → Bool
greatest_test power b bound x = both (leb (power x) b) (both (ltb b (power (suc x))) (leb x bound))

greatest_tested : (power : ℕ → ℕ) → ((m n : ℕ) → m ≤ n → power m ≤ power n) → (b bound x : ℕ) → T (greatest_test power b bound x) → x ≡ greatest (λ w. leb (power w) b) bound
greatest_tested power rises b bound x t =
    let fits = both_left (leb (power x) b) (both (ltb b (power (suc x))) (leb x bound)) t in
    let rest = both_right (leb (power x) b) (both (ltb b (power (suc x))) (leb x bound)) t in
    let next = both_left (ltb b (power (suc x))) (leb x bound) rest in
    let within = both_right (ltb b (power (suc x))) (leb x bound) rest in
    sym
    (greatest_is (λ w. leb (power w) b) bound x (leb→le x bound within) (le→leb (power 0) b (le_trans (rises 0 x zero-le) (leb→le (power x) b fits))) fits
    (λ m h l. lt_irrefl b (lt_of_lt_of_le (ltb→lt b (power (suc x)) next) (le_trans (rises (suc x) m h) (leb→le (power m) b l)))))

unfoldable pub weight_test : ℕ → ℕ → Bool
weight_test i x = greatest_test (λ w. w ^ 100 * 10 ^ i) (unit ^ 100) unit x

weight_tested : (i x : ℕ) → T (weight_test i x) → x ≡ weight_of i
unfolding weight_test weight_of
weight_tested i x t = greatest_tested (λ w. w ^ 100 * 10 ^ i) (λ m n h. mul-le-mul_right (10 ^ i) (pow-le-pow_left h 100)) (unit ^ 100) unit x t

raised_tested : (k x : ℕ) → T (greatest_test (λ v. v ^ 100) (unit ^ 100 * 10 ^ k) (unit * 10 ^ k) x) → x ≡ raised_unit k
unfolding raised_unit
raised_tested k x t = greatest_tested (λ v. v ^ 100) (λ m n h. pow-le-pow_left h 100) (unit ^ 100 * 10 ^ k) (unit * 10 ^ k) x t

-- where a mark begins or ends at the k-th tie, f millionths above: the tenths are found back from it
unfoldable pub tie_test : ℕ → ℕ → ℕ → Bool
tie_test f k x =
    let v = (1000000 * x + f - 1) / f in
    both (eqb x (f * v / 1000000)) (greatest_test (λ v. v ^ 100) (unit ^ 100 * 10 ^ k) (unit * 10 ^ k) v)

tie_tested : (f k x : ℕ) → T (tie_test f k x) → x ≡ f * raised_unit k / 1000000
unfolding tie_test
tie_tested f k x t =
    let v = (1000000 * x + f - 1) / f in
    let found = greatest_test (λ v. v ^ 100) (unit ^ 100 * 10 ^ k) (unit * 10 ^ k) v in
    let same = eqb x (f * v / 1000000) in
    eqb→eq x (f * v / 1000000) (both_left same found t) ∙ ap (λ (y : ℕ). f * y / 1000000) (raised_tested k v (both_right same found t))

-- no tie is the 0th
unfoldable pub mark_test : ℕ → ℕ → ℕ → Bool
mark_test f zero x = eqb x 0
mark_test f (suc k) x = tie_test f k x

module _ (g : ℕ → ℕ) (f : ℕ) (none : g 0 ≡ 0) (rule : (k : ℕ) → g (suc k) ≡ f * raised_unit k / 1000000) where
  mark_tested : (i x : ℕ) → T (mark_test f i x) → x ≡ g i
  unfolding mark_test
  mark_tested zero x t = eqb→eq x 0 t ∙ sym none
  mark_tested (suc k) x t = tie_tested f k x t ∙ sym (rule k)

-- ---- the rule of each array of the crate `energy_tables`, by one test that is computed over the whole of its list

pub weight_rule : Values (λ i x. x ≡ weight_of i) 100 WEIGHT
unfolding weight_list weight_test
weight_rule = subst (Values (λ i x. x ≡ weight_of i) 100) (sym weight_is) (values_tested weight_test weight_tested refl tt)

pub power_rule : Values (λ i x. x ≡ 10 ^ i) 16 POWER
unfolding power_list
power_rule = subst (Values (λ i x. x ≡ 10 ^ i) 16) (sym power_is) (values_tested (λ i x. eqb x (10 ^ i)) (λ i x t. eqb→eq x (10 ^ i) t) refl tt)

pub begin_rule : Values (λ i x. x ≡ begin_of i) 200 MARK_BEGIN
unfolding mark_begin_list mark_test tie_test begin_of
begin_rule = subst (Values (λ i x. x ≡ begin_of i) 200) (sym mark_begin_is) (values_tested (mark_test 1011230) (mark_tested begin_of 1011230 refl (λ k. refl)) refl tt)

pub end_rule : Values (λ i x. x ≡ end_of i) 200 MARK_END
unfolding mark_end_list mark_test tie_test end_of
end_rule = subst (Values (λ i x. x ≡ end_of i) 200) (sym mark_end_is) (values_tested (mark_test 1011929) (mark_tested end_of 1011929 refl (λ k. refl)) refl tt)

-- ---- what is read

module _ (j : ℕ) where
  pub weight_near : j < 100 → Bounded unit (weight_of j) (get_or WEIGHT j 0)
  weight_near h = let q = weight_rule.rule j h in record { is = q; most = rw q (weight_most j) }

  pub weight_gone : 1600 ≤ j → Bounded unit (weight_of j) 0
  weight_gone h = record { is = sym (weight_none j h); most = zero-le }

  pub weight_read : j < 1600 → Bounded unit (weight_of j) (get_or WEIGHT (j % 100) 0 / get_or POWER (j / 100) 0)
  weight_read h =
      let e = ap₂ (λ (x y : ℕ). x / y) (weight_rule.rule (j % 100) (mod-lt j (zero-lt-suc 99))) (power_rule.rule (j / 100) (omega arith)) ∙ sym (weight_cut j) in
      record { is = e; most = rw e (weight_most j) }

-- the ties that a sum of at most 96 weights has passed
begins_rise : IsNonDecreasing MARK_BEGIN
begins_rise =
    IsNonDecreasingBy-from_default (λ x. x) MARK_BEGIN 0
    (λ i j h l.
    let k : j < 200 = omega (arith, l, begin_rule.size) in
    rw (begin_rule.rule i (omega arith), begin_rule.rule j k) (begin_rises i j h))

module _ (w : ℕ) (few : w ≤ 96 * unit) where
  pub begins_sought : Sought MARK_BEGIN w
  begins_sought = record { rises = begins_rise; stands = record { some = lit< tt; first = zero-le; last = lt_of_le_of_lt few (lit< tt) } }

  pub passed_read : {k : ℕ} → Between MARK_BEGIN w k → (k ≡ passed_of w) × (k < 199)
  passed_read {k} b =
      let inside : k < 199 = omega (arith, b.inside, begin_rule.size) in
      let is = passed_is w k inside (rw (begin_rule.rule k (omega arith)) at b.low) (rw (add-one, begin_rule.rule (suc k) (omega arith)) at b.high) in
      (sym is, inside)

-- and that of a cell beside the loudest level
module _ (c loud : ℤ) where
  pub cell_silent : c <ℤ negsuc 1999 → Bounded unit (weight_at (height_at loud) c) 0
  cell_silent h = record { is = sym (weight_silent c (height_at loud) h); most = zero-le }

  pub cell_heard : negsuc 1999 ≤ℤ c → {j r : ℕ} → j ≡ height_at loud - height_at c → Bounded unit (weight_of j) r → Bounded unit (weight_at (height_at loud) c) r
  cell_heard h e b = record { is = b.is ∙ ap weight_of e ∙ sym (weight_heard c (height_at loud) h); most = b.most }
