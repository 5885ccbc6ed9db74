-- The sines rise and are at most one, and y has its range for every accepted pair of angles: tests over one angle each.
-- Assumes nothing.
use mathlib.Core.Path.{◌≡◌, refl, sym, ◌∙◌, ap, subst}
use mathlib.Core.Bool.{Bool, true, false, cond}
use mathlib.Core.Logic.{◌⊎◌, inl, inr}
use Prim.Native.Nat.{ℕ, zero, suc, ◌+◌, ◌-◌, ◌*◌, ◌/◌, ◌≤◌, ◌<◌, zero-le}
use native.Mathlib.Nat.{le_refl, le_trans, eq-or-lt_of_le, le_of_suc-le-suc, mul-le-mul_left, lt_of_not-le, mul-zero, zero-div}
use native.Mathlib.Decide.{dec_le}
use native.Mathlib.Omega.{arith}
use lib.Dec.{T, leb, leb→le, lit≤, lit<}
use lib.IntN.{ℤ, pos, negsuc, neg_ℤ, ◌-ℤ◌, ◌*ℤ◌}
use lib.Signed.{quot_z}
use borrow.Author.Tests.{le-leb, lt-leb, leb-false}
use Rattle.decibel.specs.Ints.{up, dn}
use Rattle.decibel.specs.Log.{fence}
use Rattle.decibel.proofs.Tests.{both}
use Rattle.decibel.specs.Sine.{sine_of, sine_at, cosine_at, series, term, arc, factorial, denominator}
use Rattle.decibel.proofs.Ints.{add_is, neg_is, up_pos}
use Rattle.decibel.proofs.Greatest.{clamp_same}
use Rattle.decibel.proofs.Fences.{fence_low, fence_high}
use Rattle.decibel.proofs.Table.{both_left, both_right}
use Rattle.figures.specs.declared.Segment.{Segment}
use Rattle.figures.proofs.Ranged.{Signed, Ranged}
use Rattle.propagation.specs.Angle.{y_of, angle_fence}

-- ---- a test of every number up to n

abbrev up_to : (ℕ → Bool) → ℕ → Bool
up_to f zero = f zero
up_to f (suc n) = both (f (suc n)) (up_to f n)

pick : (f : ℕ → Bool) (n : ℕ) → T (up_to f (suc n)) → (k : ℕ) → (k ≡ suc n) ⊎ (k < suc n) → (k < suc n → T (f k)) → T (f k)
pick f n t k (inl e) r = subst (λ (x : ℕ). T (f x)) (sym e) (both_left (f (suc n)) (up_to f n) t)
pick f n t k (inr l) r = r l

at : (f : ℕ → Bool) (n : ℕ) → T (up_to f n) → (k : ℕ) → k ≤ n → T (f k)
at f zero t zero h = t
at f zero t (suc k) h = let z : ⊥ = omega arith in absurd z
at f (suc n) t k h = pick f n t k (eq-or-lt_of_le h) (λ l. at f n (both_right (f (suc n)) (up_to f n) t) k (le_of_suc-le-suc l))

-- ---- the sines of 0 to 90 degrees, as natural numbers

abbrev sine : ℕ → ℕ
sine k = up (sine_of k)

-- of 0 to 180 degrees
abbrev turned : ℕ → ℕ
turned v = cond (leb v 90) (sine v) (sine (180 - v))

-- none is below zero
plain : T (up_to (λ k. leb (dn (sine_of k)) 0) 90)
unfolding sine_of series term arc factorial denominator
plain = tt

-- each is at most the next
rise : T (up_to (λ k. leb (sine k) (sine (suc k))) 89)
unfolding sine_of series term arc factorial denominator
rise = tt

top : T (leb (sine 90) 1000000000)
unfolding sine_of series term arc factorial denominator
top = tt

-- at a = v, the least y
diagonal : T (up_to (λ k. leb (sine (5 + k) * sine (90 - (5 + k)) / 1000000000 + 100000) (3141592654 * (5 + k) / 180)) 85)
unfolding sine_of series term arc factorial denominator
diagonal = tt

-- at a = 180, the greatest y
widest : T (up_to (λ k. leb (3141592654 * k / 180 + turned k) 3200000000) 180)
unfolding sine_of series term arc factorial denominator
widest = tt

sine_is : {k : ℕ} → k ≤ 90 → sine_of k ≡ pos (sine k)
sine_is {k} h = sym (up_pos (sine_of k) (least (leb→le (dn (sine_of k)) 0 (at (λ k. leb (dn (sine_of k)) 0) 90 plain k h))))
  where
    least : dn (sine_of k) ≤ 0 → dn (sine_of k) ≡ 0
    least l = omega arith

rises : (i n : ℕ) → i + n ≤ 90 → sine i ≤ sine (i + n)
rises i zero h = subst (λ (x : ℕ). sine i ≤ sine x) (omega arith) (le_refl (sine i))
rises i (suc n) h =
    let one : sine (i + n) ≤ sine (suc (i + n)) = leb→le (sine (i + n)) (sine (suc (i + n))) (at (λ k. leb (sine k) (sine (suc k))) 89 rise (i + n) (omega arith)) in
    le_trans (rises i n (omega arith)) (subst (λ (x : ℕ). sine (i + n) ≤ sine x) (omega arith) one)

sines_rise : {i j : ℕ} → i ≤ j → j ≤ 90 → sine i ≤ sine j
sines_rise {i} {j} h l = subst (λ (x : ℕ). sine i ≤ sine x) (omega arith) (rises i (j - i) (omega arith))

sine_most : {i : ℕ} → i ≤ 90 → sine i ≤ 1000000000
sine_most h = le_trans (sines_rise h (lit≤ tt)) (leb→le (sine 90) 1000000000 top)

-- ---- the reflections

reflected : (v : ℕ) → v ≤ 180 → (b : Bool) → leb v 90 ≡ b → cond b (sine_of v) (sine_of (180 - v)) ≡ pos (cond b (sine v) (sine (180 - v)))
reflected v h true e = sine_is (leb→le v 90 (subst T (sym e) tt))
reflected v h false e = let l : 180 - v ≤ 90 = omega (arith, leb-false v 90 e) in sine_is l

sine_at_lem : {v : ℕ} → v ≤ 180 → sine_at v ≡ pos (turned v)
unfolding sine_at
sine_at_lem {v} h = rw (← clamp_same 0 180 v zero-le h) (reflected v h (leb v 90) refl)

cosine_low : {a : ℕ} → a ≤ 90 → cosine_at a ≡ pos (sine (90 - a))
unfolding cosine_at
cosine_low {a} h =
    let l : a ≤ 180 = omega arith in
    let k : 90 - a ≤ 90 = omega arith in
    rw (← clamp_same 0 180 a zero-le l, le-leb a 90 h) (sine_is k)

cosine_high : {a : ℕ} → 90 < a → a ≤ 180 → cosine_at a ≡ neg_ℤ (pos (sine (a - 90)))
unfolding cosine_at
cosine_high {a} h l =
    let k : a - 90 ≤ 90 = omega arith in
    rw (← clamp_same 0 180 a zero-le l, lt-leb a 90 h) (ap neg_ℤ (sine_is k))

-- ---- y with each sign of the cosine

product_neg : (p q : ℕ) → pos p *ℤ neg_ℤ (pos q) ≡ neg_ℤ (pos (p * q))
product_neg p zero = ap pos (mul-zero p) ∙ ap (λ (x : ℕ). neg_ℤ (pos x)) (sym (mul-zero p))
product_neg p (suc q) = refl

quot_neg : (x m : ℕ) → quot_z (neg_ℤ (pos x)) (pos m) ≡ neg_ℤ (pos (x / m))
quot_neg zero m = ap pos (zero-div m) ∙ ap (λ (x : ℕ). neg_ℤ (pos x)) (sym (zero-div m))
quot_neg (suc x) m = refl

-- y in its range
pub record Viewed (y : ℤ) : Type 0 where
  pub sign : dn y ≡ 0
  pub low : 100000 ≤ up y
  pub high : up y ≤ 3200000000

y_less : (n q : ℕ) → q + 100000 ≤ n → n ≤ 3200000000 → Viewed (pos n -ℤ pos q)
y_less n q h l = cases (pos n -ℤ pos q) (add_is (pos n) (neg_ℤ (pos q)))
  where
    cases : (y : ℤ) → up y + 0 + dn (neg_ℤ (pos q)) ≡ n + up (neg_ℤ (pos q)) + dn y → Viewed y
    cases (pos y) e = record { sign = refl; low = omega (arith, neg_is (pos q)); high = omega (arith, neg_is (pos q)) }
    cases (negsuc y) e = let z : ⊥ = omega (arith, neg_is (pos q)) in absurd z

y_more : (n q : ℕ) → 100000 ≤ n → n + q ≤ 3200000000 → Viewed (pos n -ℤ neg_ℤ (pos q))
y_more n zero h l = record { sign = refl; low = omega arith; high = omega arith }
y_more n (suc q) h l = record { sign = refl; low = omega arith; high = omega arith }

module _ (v a : ℕ) (low : 5 ≤ v) (order : v ≤ a) (high : a ≤ 180) where
  most : 3141592654 * v / 180 + turned v ≤ 3200000000
  most = leb→le _ _ (at (λ k. leb (3141592654 * k / 180 + turned k) 3200000000) 180 widest v (le_trans order high))

  room : a ≤ 90 → sine v * sine (90 - a) / 1000000000 + 100000 ≤ 3141592654 * v / 180
  room h =
      let f : v - 5 ≤ 85 = omega arith in
      let e : 5 + (v - 5) ≡ v = omega arith in
      let d : sine v * sine (90 - v) / 1000000000 + 100000 ≤ 3141592654 * v / 180 =
      subst (λ (x : ℕ). sine x * sine (90 - x) / 1000000000 + 100000 ≤ 3141592654 * x / 180) e
      (leb→le _ _ (at (λ k. leb (sine (5 + k) * sine (90 - (5 + k)) / 1000000000 + 100000) (3141592654 * (5 + k) / 180)) 85 diagonal (v - 5) f)) in
      let b : 90 - a ≤ 90 - v = omega arith in
      let k : 90 - v ≤ 90 = omega arith in
      let m : sine v * sine (90 - a) ≤ sine v * sine (90 - v) = mul-le-mul_left (sine v) (sines_rise b k) in
      omega arith

  narrow : a ≤ 90 → Viewed (y_of v a)
  unfolding y_of
  narrow h =
      let p : v ≤ 90 = omega arith in
      let e : turned v ≡ sine v = rw (le-leb v 90 p) refl in
      rw (sine_at_lem (le_trans order high), cosine_low h)
      (y_less (3141592654 * v / 180) (turned v * sine (90 - a) / 1000000000) (rw e (room h)) (omega (arith, most)))

  wide : 90 < a → Viewed (y_of v a)
  unfolding y_of
  wide h =
      let b : a - 90 ≤ 90 = omega arith in
      let m : turned v * sine (a - 90) ≤ turned v * 1000000000 = mul-le-mul_left (turned v) (sine_most b) in
      rw (sine_at_lem (le_trans order high), cosine_high h high, product_neg (turned v) (sine (a - 90)), quot_neg (turned v * sine (a - 90)) 1000000000)
      (y_more (3141592654 * v / 180) (turned v * sine (a - 90) / 1000000000) (omega arith) (omega (arith, most)))

  -- for every accepted pair of angles y is from 100,000 to 3,200,000,000
  pub view_lies : Viewed (y_of v a)
  view_lies = go (dec_le a 90)
    where
      go : Dec (a ≤ 90) → Viewed (y_of v a)
      go (yes h) = narrow h
      go (no f) = wide (lt_of_not-le f)

-- the step lies between -45 and 5 decibels
pub angle_lies : {s : Segment} → Ranged s → Signed 45000000 5000000 (angle_fence s)
unfolding angle_fence
angle_lies {s} g =
    let y = y_of (up s.view) (up s.doubled) in
    let f = fence 0 10000000 (up y) 1000000000 in
    let w = view_lies (up s.view) (up s.doubled) g.view.least g.doubled.least g.doubled.most in
    let p : 0 < up y = omega (arith, w.low) in
    cases (f -ℤ pos 5000000) (fence_low 0 4 10000000 (up y) 1000000000 p (lit< tt) (omega (arith, w.low))) (fence_high 0 1 10000000 (up y) 1000000000 p (lit< tt) (omega (arith, w.high))) (add_is f (negsuc 4999999))
  where
    cases : {a b : ℕ} (z : ℤ) → b ≤ 40000000 → a ≤ 10000000 → up z + b + 5000000 ≡ a + 0 + dn z → Signed 45000000 5000000 z
    cases (pos n) l h e = record { most = omega arith; least = omega arith }
    cases (negsuc n) l h e = record { most = omega arith; least = omega arith }
