-- Signed figures over plain values: as natural numbers, as they are written and read back, and added.
-- Assumes nothing.
use mathlib.Core.Path.{◌≡◌, refl, sym, ◌∙◌, ap, ap₂, subst}
use Prim.Native.Nat.{ℕ, ◌+◌, ◌^◌, ◌≤◌, ◌<◌}
use native.Mathlib.Nat.{lt_of_lt_of_le}
use native.Mathlib.Omega.{arith}
use lib.Dec.{T, lit≤}
use lib.IntN.{ℤ, pos, negsuc, neg_ℤ, ◌+ℤ◌, ◌-ℤ◌, nat_abs}
use lib.Signed.{mag, non_neg}
use mir.Syntax.{w32}
use mir.Val.{SFits, to_z, of_z}
use mir.Facts.{to_z_pos}
use Rattle.decibel.specs.Ints.{up, dn}
use Rattle.decibel.proofs.Ints.{add_most, neg_is, mag_most, most_mag}
use Rattle.decibel.proofs.Words.{back}
use Rattle.figures.specs.Bounds.{Below}
use Rattle.figures.specs.Private.{Exactly}
use Rattle.figures.proofs.Ranged.{From, Signed}

-- ---- a signed figure as a natural number

pub abs_up : (a : ℤ) → T (non_neg a) → nat_abs a ≡ up a
abs_up (pos n) t = refl
abs_up (negsuc n) t = absurd t

-- ---- sums and differences fit, and are read back

-- as it is written and read
abbrev pub read : ℤ → ℤ
read z = to_z w32 (of_z w32 z)

pub size : (a : ℤ) → mag a < 2 ^ 31 → up a + dn a ≤ 2147483648
size (pos n) h = omega arith
size (negsuc n) h = omega arith

pub sum_fits : (a b : ℤ) → Below 1000000 a → Below 1000000 b → SFits w32 (a +ℤ b)
sum_fits a b s t = record { sfits = omega (arith, mag_most (a +ℤ b), add_most a b, s.most, s.least, t.most, t.least) }

pub below_back : {z : ℤ} → Below 1000000 z → read z ≡ z
below_back {z} b = back z (omega (arith, mag_most z, b.most, b.least))

pub below_more : {m n : ℕ} {z : ℤ} → m ≤ n → Below m z → Below n z
below_more h b = record { most = lt_of_lt_of_le b.most h; least = lt_of_lt_of_le b.least h }

pub below_mag : {z : ℤ} → mag z < 1000 → Below 1001 z
below_mag {z} h = record { most = omega (arith, most_mag z); least = omega (arith, most_mag z) }

pub natural_below : {m n : ℕ} → n < m → Below m (pos n)
natural_below h = record { most = h; least = omega arith }

pub from_below : {a b m : ℕ} {z : ℤ} → b < m → From a b z → Below m z
from_below h f = record { most = omega (arith, f.most); least = omega (arith, f.sign) }

pub signed_below : {a b m : ℕ} {z : ℤ} → a < m → b < m → Signed a b z → Below m z
signed_below h l f = record { most = omega (arith, f.most); least = omega (arith, f.least) }

-- a natural number as it is cast to a signed one
pub cast_read : (n : ℕ) → n < 1000000 → to_z w32 n ≡ pos n
cast_read n h = to_z_pos w32 {n = n} (omega arith)

-- a natural number from a figure that was read
pub read_up : {a b n : ℕ} {z : ℤ} → b < 1000000 → From a b z → n ≡ up (read z) → n ≡ up z
read_up h f e = e ∙ ap up (below_back (from_below h f))

-- a small value as it is returned
pub returned : {m : ℕ} {v r : ℤ} → m ≤ 2000 → r ≡ v → Below m r → Exactly v (read r)
returned {m} {v} {r} h e b =
    let c = below_more h b in
    let l : Below 1000000 r = below_more (lit≤ tt) c in
    rw (below_back l) (record { is = e; small = c })

pub exactly_read : {v r : ℤ} → Exactly v r → Exactly v (read r)
exactly_read e = returned (lit≤ tt) e.is e.small

pub exactly_by : {v w r : ℤ} → v ≡ w → Exactly v r → Exactly w r
exactly_by {r = r} e x = subst (λ (z : ℤ). Exactly z r) e x

-- ---- sums of what was read

pub record Sum (n : ℕ) (x y r : ℤ) : Type 0 where
  pub is : r ≡ x +ℤ y
  pub small : Below n r

module _ {m n : ℕ} {x y : ℤ} (a : Below m x) (b : Below n y) (h : m + n ≤ 1000000) where
  sum_back : read x +ℤ read y ≡ x +ℤ y
  sum_back = ap₂ ◌+ℤ◌ (below_back (below_more (omega arith) a)) (below_back (below_more (omega arith) b))

  sum_below : Below (m + n) (x +ℤ y)
  sum_below = record { most = omega (arith, add_most x y, a.most, b.most); least = omega (arith, add_most x y, a.least, b.least) }

  pub summand : SFits w32 (read x +ℤ read y)
  summand = rw sum_back (sum_fits x y (below_more (omega arith) a) (below_more (omega arith) b))

  -- before it is read again
  pub added : Sum (m + n) x y (read x +ℤ read y)
  added = record { is = sum_back; small = subst (Below (m + n)) (sym sum_back) sum_below }

  pub summed : Sum (m + n) x y (read (read x +ℤ read y))
  summed =
      let e = ap read sum_back ∙ below_back (below_more h sum_below) in
      record { is = e; small = subst (Below (m + n)) (sym e) sum_below }

-- less a natural number
module _ (k : ℕ) {m : ℕ} {x : ℤ} (a : Below m x) (h : m + (k + 1) ≤ 1000000) where
  less_back : read x -ℤ pos k ≡ x -ℤ pos k
  less_back = ap (λ (z : ℤ). z -ℤ pos k) (below_back (below_more (omega arith) a))

  less_below : Below (m + (k + 1)) (x -ℤ pos k)
  less_below =
      record {
        most = omega (arith, add_most x (neg_ℤ (pos k)), neg_is (pos k), a.most);
        least = omega (arith, add_most x (neg_ℤ (pos k)), neg_is (pos k), a.least);
      }

  pub less_fits : SFits w32 (read x -ℤ pos k)
  less_fits = let b = below_more h less_below in rw less_back (record { sfits = omega (arith, mag_most (x -ℤ pos k), b.most, b.least) })

  pub less : Sum (m + (k + 1)) x (neg_ℤ (pos k)) (read (read x -ℤ pos k))
  less =
      let e = ap read less_back ∙ below_back (below_more h less_below) in
      record { is = e; small = subst (Below (m + (k + 1))) (sym e) less_below }
