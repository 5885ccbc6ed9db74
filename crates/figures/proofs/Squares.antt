-- Squares of signed figures, and of lengths with two legs, over plain values.
-- Assumes nothing.
use mathlib.Core.Path.{◌≡◌, sym, ◌∙◌, ap, subst}
use Prim.Native.Nat.{ℕ, ◌+◌, ◌*◌, ◌^◌, ◌≤◌, ◌<◌}
use native.Mathlib.Nat.{mul-le-mul}
use native.Mathlib.Omega.{arith}
use lib.Dec.{T}
use lib.IntN.{ℤ, pos, negsuc, ◌*ℤ◌, nat_abs}
use lib.Signed.{mag, non_neg}
use Rattle.decibel.specs.Ints.{up, dn}
use Rattle.figures.specs.Geometry.{squared, slant}
use Rattle.figures.specs.Private.{Square}
use Rattle.figures.proofs.Signs.{abs_up, size}

pub squared_is : (z : ℤ) → squared z ≡ (up z + dn z) * (up z + dn z)
unfolding squared
squared_is (pos n) = omega arith
squared_is (negsuc n) = omega arith

square_nonneg : (a : ℤ) → T (non_neg (a *ℤ a))
square_nonneg (pos n) = tt
square_nonneg (negsuc n) = tt

square_abs : (a : ℤ) → nat_abs (a *ℤ a) ≡ squared a
unfolding squared
square_abs a = abs_up (a *ℤ a) (square_nonneg a)

square_small : (a : ℤ) → mag a < 2 ^ 31 → squared a < 4700000000000000000
square_small a h = let l : up a + dn a ≤ 2147483648 = size a h in omega (arith, squared_is a, mul-le-mul l l)

pub square_of : (a : ℤ) {p : ℤ} → mag a < 2 ^ 31 → p ≡ a *ℤ a → Square a (nat_abs p)
square_of a h e =
    let is = ap nat_abs e ∙ square_abs a in
    record { is = is; small = subst (λ (x : ℕ). x < 4700000000000000000) (sym is) (square_small a h) }

pub slant_most : (x y : ℤ) (m n : ℕ) → up x + dn x ≤ m → up y + dn y ≤ n → slant x y ≤ m * m + n * n
unfolding slant
slant_most x y m n h l = omega (arith, squared_is x, squared_is y, mul-le-mul h h, mul-le-mul l l)
