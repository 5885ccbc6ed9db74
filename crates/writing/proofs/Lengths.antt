-- How long numbers are at most.
-- Assumes nothing.
use mathlib.Core.Path.{◌≡◌, refl}
use mathlib.Core.List.{List, [], ◌∷◌, append-nil, flatten}
use Prim.Native.Nat.{ℕ, ◌/◌, ◌%◌, ◌≤◌}
use native.Mathlib.Omega.{arith}
use lib.IntN.{ℤ, pos, negsuc, nat_abs}
use lib.ListN.{length, length-append}
use mir.Syntax.{w32}
use mir.Val.{SFits, to_z, of_z}
use mir.Facts.{to_z-of_z}
use Rattle.std.specs.Fmt.{decimal}
use Rattle.writing.specs.Bytes.{ascii, fitting, digits_of, sign, signed_of, with_tenths, figure_of}
use Rattle.writing.proofs.Digits.{digits_length, decimal_is}
use Rattle.writing.proofs.Concatenation.{fits_as, fits_two}

sign-length : (z : ℤ) → length (sign z) ≤ 1
unfolding sign
sign-length (pos n) = omega arith
sign-length (negsuc n) = omega arith

size_bound : (z : ℤ) → SFits w32 z → nat_abs z ≤ 2147483648
size_bound (pos n) f = omega (arith, f.sfits)
size_bound (negsuc n) f = omega (arith, f.sfits)

pub signed_length : (z : ℤ) → SFits w32 z → length (signed_of z) ≤ 11
unfolding signed_of
signed_length z f = simp length-append (omega (arith, sign-length z, size_bound z f, digits_length 9 (nat_abs z) (omega (arith, size_bound z f))))

-- a signed number, put together from its parts: there is room for both
pub signed_is : (z : ℤ) {minus digits : List ℕ} {size : ℕ}
    → SFits w32 z
    → minus ≡ sign (to_z w32 (of_z w32 z))
    → size ≡ nat_abs (to_z w32 (of_z w32 z))
    → digits ≡ decimal size
    → fitting 11 (minus ∷ digits ∷ []) ≡ signed_of z
unfolding signed_of
signed_is z f m e d =
    rw (d, m, e, to_z-of_z f, decimal_is (nat_abs z) (omega (arith, size_bound z f)))
    (fits_two 11 (sign z) (digits_of (nat_abs z)) (rw (length-append (sign z) (digits_of (nat_abs z))) at (signed_length z f)))

tenths_length : (n : ℕ) → n ≤ 2147483648 → length (with_tenths n) ≤ 11
unfolding with_tenths
tenths_length n h = simp length-append (omega (arith, digits_length 8 (n / 10) (omega arith), digits_length 0 (n % 10) (omega arith)))

pub figure_length : (z : ℤ) → SFits w32 z → length (figure_of z) ≤ 12
unfolding figure_of
figure_length z f = simp length-append (omega (arith, sign-length z, tenths_length (nat_abs z) (size_bound z f)))

figure_parts : (z : ℤ) → flatten (sign z ∷ digits_of (nat_abs z / 10) ∷ ascii "." ∷ digits_of (nat_abs z % 10) ∷ []) ≡ figure_of z
unfolding figure_of with_tenths flatten
figure_parts z = rw (append-nil (digits_of (nat_abs z % 10))) refl

-- a figure, put together from its parts: there is room for all of them
pub figure_is : (z : ℤ) {minus whole tenth : List ℕ} {size : ℕ}
    → SFits w32 z
    → minus ≡ sign (to_z w32 (of_z w32 z))
    → size ≡ nat_abs (to_z w32 (of_z w32 z))
    → whole ≡ decimal (size / 10)
    → tenth ≡ decimal (size % 10)
    → fitting 12 (minus ∷ whole ∷ ascii "." ∷ tenth ∷ []) ≡ figure_of z
figure_is z f m e w t =
    let low = size_bound z f in
    rw (w, t, m, e, to_z-of_z f, decimal_is (nat_abs z / 10) (omega (arith, low)), decimal_is (nat_abs z % 10) (omega (arith, low)))
    (fits_as 12 (sign z ∷ digits_of (nat_abs z / 10) ∷ ascii "." ∷ digits_of (nat_abs z % 10) ∷ []) (figure_parts z) (figure_length z f))
