-- The air step: its fence and tenth are those of its exact value, the ties that the code counts, how far it lies from zero.
-- Assumes nothing.
use mathlib.Core.Path.{◌≡◌, refl, sym, ◌∙◌, ap, ap₂, subst}
use mathlib.Core.Bool.{Bool, true, false, cond}
use Prim.Native.Nat.{ℕ, zero, suc, ◌+◌, ◌*◌, ◌/◌, ◌≤◌, ◌<◌}
use native.Mathlib.Nat.{le_refl, le_trans, le_antisymm, le_of_lt, lt_irrefl, lt_of_lt_of_le, lt_of_le_of_lt, lt_of_not-le, mul-le-mul}
use native.Mathlib.Decide.{dec_le}
use native.Mathlib.Omega.{arith}
use lib.Dec.{T, leb, leb→le, le→leb, lit≤}
use lib.IntN.{ℤ, pos, negsuc, neg_ℤ, sub_ℕ, ◌+ℤ◌, ◌-ℤ◌}
use lib.Signed.{◌≤ℤ◌}
use mir.Syntax.{w32, w64}
use mir.Val.{Fits, SFits, to_z}
use Rattle.decibel.specs.Ints.{up, dn}
use Rattle.decibel.specs.Greatest.{whole_root}
use Rattle.decibel.specs.Round.{nearest, IsFence, IsNearest}
use Rattle.decibel.proofs.Ints.{sub_is, sub_most, add_is, add_most, neg_is, mag_most, from_parts, ints}
use Rattle.decibel.proofs.Greatest.{root_low, root_high}
use Rattle.decibel.proofs.Round.{tie_is, nearest_is, nearest_exact}
use Rattle.figures.specs.declared.Segment.{Segment}
use Rattle.figures.specs.Geometry.{squared, slant, slant_square}
use Rattle.figures.specs.Bounds.{Below}
use Rattle.figures.specs.Private.{Exactly}
use Rattle.figures.proofs.Ranged.{Signed, Ranged}
use Rattle.figures.proofs.Signs.{read, cast_read, returned}
use Rattle.figures.proofs.Squares.{squared_is}
use Rattle.propagation.specs.Air.{root_up, air_fence, AirAtLeast}
use Rattle.propagation.proofs.DistanceStep.{slant_is, slant_square_most}

-- ---- the root rounded up is the least number whose square is at least n

pub root_up_enough : (n : ℕ) → n ≤ root_up n * root_up n
unfolding root_up
root_up_enough n = go (leb n (whole_root 2 n * whole_root 2 n)) refl
  where
    go : (b : Bool) → leb n (whole_root 2 n * whole_root 2 n) ≡ b → n ≤ cond b (whole_root 2 n) (suc (whole_root 2 n)) * cond b (whole_root 2 n) (suc (whole_root 2 n))
    go true e = leb→le n (whole_root 2 n * whole_root 2 n) (subst T (sym e) tt)
    go false e = le_of_lt (lt_of_not-le (λ l. lt_irrefl (whole_root 2 n) (root_high n (suc (whole_root 2 n)) l)))

-- a square of which n is at most has a root of at least that of n
root_most : (n k : ℕ) → n ≤ k * k → whole_root 2 n ≤ k
root_most n k h =
    let wide : k * k < suc k * suc k = omega arith in
    let below : whole_root 2 n < suc k = lt_of_not-le (λ (l : suc k ≤ whole_root 2 n). lt_irrefl (k * k) (lt_of_lt_of_le wide (le_trans (mul-le-mul l l) (le_trans (root_low n) h)))) in
    omega arith

pub root_up_least : (n k : ℕ) → n ≤ k * k → root_up n ≤ k
unfolding root_up
root_up_least n k h = go (leb n (whole_root 2 n * whole_root 2 n)) refl
  where
    go : (b : Bool) → leb n (whole_root 2 n * whole_root 2 n) ≡ b → cond b (whole_root 2 n) (suc (whole_root 2 n)) ≤ k
    go true e = root_most n k h
    go false e = lt_of_not-le (λ l. absurd (subst T e (le→leb n (whole_root 2 n * whole_root 2 n) (le_trans h (mul-le-mul l l)))))

pub root_up_square : (k : ℕ) → root_up (k * k) ≡ k
root_up_square k = le_antisymm (root_up_least (k * k) k (le_refl (k * k))) (go (dec_le k (root_up (k * k))))
  where
    go : Dec (k ≤ root_up (k * k)) → k ≤ root_up (k * k)
    go (yes h) = h
    go (no h) = let l : suc (root_up (k * k)) ≤ k = lt_of_not-le h in let x : ⊥ = omega (arith, mul-le-mul l l, root_up_enough (k * k)) in absurd x

-- ---- air

-- the square is that of 200,000 - m as a natural number
gap : (m : ℤ) → m ≤ℤ pos 200000 → (k : ℕ) → up m + k ≡ 200000 + dn m → squared (pos 200000 -ℤ m) ≡ k * k
gap m h k e =
    let z = pos 200000 -ℤ m in
    let same : z ≡ pos k = from_parts z (pos k) (omega (arith, add_is (pos 200000) (neg_ℤ m), neg_is m)) in
    subst (λ (y : ℤ). squared y ≡ k * k) (sym same) (plain k)
  where
    plain : (k : ℕ) → squared (pos k) ≡ k * k
    plain k = omega (arith, squared_is (pos k))

-- its natural number
rest : (m : ℤ) → ℕ
rest m = up (pos 200000 -ℤ m)

rest_is : (m : ℤ) → m ≤ℤ pos 200000 → up m + rest m ≡ 200000 + dn m
unfolding rest
rest_is m h = cases (pos 200000 -ℤ m) (add_is (pos 200000) (neg_ℤ m)) (neg_is m)
  where
    cases : (z : ℤ) → up z + 0 + dn (neg_ℤ m) ≡ 200000 + up (neg_ℤ m) + dn z → (up (neg_ℤ m) ≡ dn m) × (dn (neg_ℤ m) ≡ up m) → up m + up z ≡ 200000 + dn m
    cases (pos n) p q = omega arith
    cases (negsuc n) p q = omega (arith, ints)

air_falls : (s : Segment) (m n : ℤ) → m ≤ℤ n → AirAtLeast s n → AirAtLeast s m
air_falls s m n h a =
    let under : m ≤ℤ pos 200000 = omega (arith, ints, a.under) in
    let wide : rest n ≤ rest m = omega (arith, ints, rest_is m under, rest_is n a.under) in
    record { under = under; square = omega (arith, a.square, gap m under (rest m) (rest_is m under), gap n a.under (rest n) (rest_is n a.under), mul-le-mul wide wide) }

pub air_fence_largest : (s : Segment) → IsFence (AirAtLeast s) (air_fence s)
unfolding air_fence
air_fence_largest s =
    let n = 6400 * slant_square s in
    let k = root_up n in
    let f = sub_ℕ 200000 k in
    let under : f ≤ℤ pos 200000 = omega (arith, ints, sub_most 200000 k) in
    record {
      fits = record { under = under; square = omega (arith, root_up_enough n, gap f under k (sub_is 200000 k)) };
      top = λ m a. omega (arith, ints, a.under, rest_is m a.under, sub_is 200000 k, root_up_least n (rest m) (omega (arith, a.square, gap m a.under (rest m) (rest_is m a.under))));
    }

pub air_tenth_nearest : (s : Segment) → IsNearest (AirAtLeast s) (nearest (air_fence s))
air_tenth_nearest s = nearest_exact (AirAtLeast s) (air_falls s) (air_fence s) (air_fence_largest s)

pub air_lies : {s : Segment} → Ranged s → Signed 2440000 200000 (air_fence s)
unfolding air_fence
air_lies {s} g =
    let q : 6400 * slant_square s ≤ 2440000 * 2440000 = omega (arith, slant_square_most g) in
    record { most = (sub_most 200000 (root_up (6400 * slant_square s))).0; least = le_trans (sub_most 200000 (root_up (6400 * slant_square s))).1 (root_up_least (6400 * slant_square s) 2440000 q) }

-- ---- the ties that are passed, counted over squares

-- in microdecibels below 0.2 dB
abbrev pub tie_at : ℕ → ℕ
tie_at j = 100000 * j + 50000

-- every tie before the j-th lies before the root of n
pub record Passed (n j : ℕ) : Type 0 where
  pub each : (i : ℕ) → i < j → tie_at i * tie_at i < n
  pub most : j ≤ 24

square_below : {i d : ℕ} → i < d → i * i < d * d
square_below {i} {d} h = let l : suc i * suc i ≤ d * d = mul-le-mul h h in omega arith

module _ {s : Segment} (g : Ranged s) {n : ℕ} (e : n ≡ slant (read s.distance) (read s.height)) where
  pub square_fits : Fits w64 (6400 * n)
  square_fits = omega (arith, slant_is g e, slant_square_most g)

  -- those that the horizontal distance alone has passed
  pub passed_first : {d : ℕ} → d ≡ up s.distance → Passed (6400 * n) (d / 1250)
  unfolding slant_square slant
  passed_first {d} f =
      record {
        each = λ i l. below i l;
        most = omega (arith, g.distance.most);
      }
    where
      flat : up s.distance + dn s.distance ≡ d
      flat = omega (arith, g.distance.sign)

      wide : 80 * d * (80 * d) ≤ 6400 * n
      wide = let q : squared s.distance ≡ d * d = squared_is s.distance ∙ ap₂ ◌*◌ flat flat in omega (arith, slant_is g e)

      below : (i : ℕ) → i < d / 1250 → tie_at i * tie_at i < 6400 * n
      below i l = let h : tie_at i < 80 * d = omega arith in lt_of_lt_of_le (square_below h) wide

  module _ {j : ℕ} (p : Passed (6400 * n) j) where
    pub passed_next : tie_at j * tie_at j < 6400 * n → Passed (6400 * n) (j + 1)
    passed_next l = record { each = λ i h. pick i (dec_le (suc i) j) h; most = more (dec_le j 23) }
      where
        pick : (i : ℕ) → Dec (i < j) → i < j + 1 → tie_at i * tie_at i < 6400 * n
        pick i (yes h) k = p.each i h
        pick i (no h) k = let same : i ≡ j = omega (arith, lt_of_not-le h) in subst (λ (x : ℕ). tie_at x * tie_at x < 6400 * n) (sym same) l

        more : Dec (j ≤ 23) → j + 1 ≤ 24
        more (yes h) = omega arith
        more (no h) =
            let b : 24 ≤ j = lt_of_not-le h in
            let c : 2450000 ≤ tie_at j = omega arith in
            let x : ⊥ = omega (arith, mul-le-mul c c, slant_is g e, slant_square_most g) in
            absurd x

    -- the step, where the next tie is not passed
    module _ (stop : 6400 * n ≤ tie_at j * tie_at j) where
      abbrev root : ℕ
      root = root_up (6400 * n)

      after : (i : ℕ) → i < j → tie_at i < root
      after i l = lt_of_not-le (λ (h : root ≤ tie_at i). lt_irrefl (6400 * n) (lt_of_le_of_lt (le_trans (root_up_enough (6400 * n)) (mul-le-mul h h)) (p.each i l)))

      last : 100000 * j < root + 50000
      last = go j (λ i. after i)
        where
          go : (m : ℕ) → ((i : ℕ) → i < m → tie_at i < root) → 100000 * m < root + 50000
          go zero f = omega arith
          go (suc m) f = omega (arith, f m (le_refl (suc m)))

      tenth_is : pos 2 -ℤ pos j ≡ nearest (air_fence s)
      unfolding air_fence
      tenth_is =
          let z = pos 2 -ℤ pos j in
          let k = add_is (pos 2) (neg_ℤ (pos j)) in
          let m = neg_is (pos j) in
          let h = root_up_least (6400 * n) (tie_at j) stop in
          nearest_is (sub_ℕ 200000 root) z (omega (arith, ints, tie_is z, sub_is 200000 root, last)) (omega (arith, ints, tie_is (z +ℤ pos 1), add_is z (pos 1), sub_is 200000 root, last))
          ∙ ap (λ (x : ℕ). nearest (sub_ℕ 200000 (root_up (6400 * x)))) (slant_is g e)

      two_less : pos 2 -ℤ to_z w32 j ≡ pos 2 -ℤ pos j
      two_less = ap (λ (x : ℤ). pos 2 -ℤ x) (cast_read j (omega (arith, p.most)))

      two_less_below : Below 100 (pos 2 -ℤ to_z w32 j)
      two_less_below =
          let m = add_most (pos 2) (neg_ℤ (pos j)) in
          rw two_less (record { most = omega (arith, neg_is (pos j)); least = omega (arith, neg_is (pos j), p.most) })

      pub air_fits : SFits w32 (pos 2 -ℤ to_z w32 j)
      air_fits = record { sfits = omega (arith, mag_most (pos 2 -ℤ to_z w32 j), two_less_below.most, two_less_below.least) }

      pub air_is : Exactly (nearest (air_fence s)) (read (pos 2 -ℤ to_z w32 j))
      air_is = returned (lit≤ tt) (two_less ∙ tenth_is) two_less_below
