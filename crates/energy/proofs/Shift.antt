-- Levels each at most c higher have a bare level at most c + 1 higher, for every c: one law for tenths, for a fine level and for a changed flow.
-- Assumes nothing.
use mathlib.Core.Path.{◌≡◌, sym, ap, ◌∙◌, subst}
use mathlib.Core.List.{List, [], ◌∷◌}
use Prim.Native.Nat.{ℕ, suc, ◌+◌, ◌*◌, ◌/◌, ◌^◌, ◌≤◌, ◌<◌, zero-le}
use native.Mathlib.Nat.{le_trans, le_of_eq, le_of_lt, lt_of_not-le, lt_irrefl, mul-one, mul-le-mul, mul-le-mul_left, mul-le-mul_right, zero-lt-suc}
use native.Mathlib.Decide.{dec_le}
use native.Mathlib.Omega.{arith}
use lib.Dec.{T, lit≤}
use lib.Pow.{pow-add}
use lib.IntN.{ℤ, pos, negsuc, ◌+ℤ◌}
use lib.Signed.{◌≤ℤ◌}
use lib.ListN.{length}
use Rattle.decibel.specs.Ints.{up, dn}
use Rattle.decibel.proofs.Ints.{add_is, is_le, ints}
use Rattle.decibel.proofs.Log.{Reaches}
use Rattle.decibel.proofs.Powers.{pow-mul}
use Rattle.decibel.proofs.Fast.{ten_million, sure_reaches, sure_reaches_lem}
use Rattle.energy.specs.Energy.{degree, energy_above, energy, added, BareLevel}
use Rattle.energy.proofs.Scale.{above_pow, above_next, bels_least}
use Rattle.energy.proofs.Ratio.{Upper, Lower, upper_energy, lower_energy, lower_above}
use Rattle.energy.proofs.Bare.{bare_next, added_least}

-- a ratio tested at the twelve_bels degree
pub lower_sure : (p q c : ℕ) → T (sure_reaches c ten_million q p 0) → Lower p q c
unfolding degree Reaches
lower_sure p q c t = record { power = le_trans (le_of_eq (sym (mul-one (p ^ 10000000)))) (sure_reaches_lem c ten_million q p 0 t) }

-- 10 to the 0.0000001
lower_1 : Lower 100000023 100000000 1
lower_1 = lower_sure 100000023 100000000 1 tt

-- the unit in which the ratio of a shift is counted
abbrev twelve_bels : ℕ
twelve_bels = 10 ^ 12

-- the ratio of a shift is the energy of that shift above 12 bels
above : ℕ → ℕ
above c = energy_above (12 * degree + c)

scaled : (c : ℕ) → twelve_bels ^ degree * 10 ^ c ≡ 10 ^ (12 * degree + c)
scaled c = ap (λ (x : ℕ). x * 10 ^ c) (sym (pow-mul 10 12 degree)) ∙ sym (pow-add 10 (12 * degree) c)

upper_any : (c : ℕ) → Upper (suc (above c)) twelve_bels c
unfolding above
upper_any c = record { power = le_trans (le_of_eq (scaled c)) (le_of_lt (above_next (12 * degree + c))) }

lower_any : (c : ℕ) → Lower (above c) twelve_bels c
unfolding above
lower_any c = record { power = le_trans (above_pow (12 * degree + c)) (le_of_eq (sym (scaled c))) }

above_large : (c : ℕ) → twelve_bels ≤ above c
unfolding above
above_large c = bels_least 12 (12 * degree + c) (omega arith)

-- a microdecibel more
above_more : (c : ℕ) → 100000023 * above c < 100000000 * suc (above (c + 1))
unfolding above
above_more c =
    let e : 12 * degree + c + 1 ≡ 12 * degree + (c + 1) = omega arith in
    subst (λ (x : ℕ). 100000023 * energy_above (12 * degree + c) < 100000000 * suc (energy_above x)) e (lower_above (lit≤ tt) lower_1 (12 * degree + c))

-- levels in order, each of the second list at most c above that of the first; all of the first at least -210 dB
pub data Raised (c : ℕ) : List ℤ → List ℤ → Type 0 where
  no_more : Raised c [] []
  raise : {x y : ℤ} {xs ys : List ℤ} → negsuc 209999999 ≤ℤ x → y ≤ℤ (x +ℤ pos c) → Raised c xs ys → Raised c (x ∷ xs) (y ∷ ys)

module _ (c : ℕ) where
  raised-added : {xs ys : List ℤ} → Raised c xs ys → twelve_bels * added ys ≤ suc (above c) * (added xs + length xs)
  unfolding added
  raised-added no_more = zero-le
  raised-added (raise {x = x} {y = y} low h r) = omega (arith, raised-added r, upper_energy x y (zero-lt-suc (above c)) (upper_any c) (omega (arith, ints)) h)

  pub raised_large : {xs ys : List ℤ} → Raised c xs ys → 0 < length xs → 1000000000 ≤ added xs
  unfolding degree
  raised_large no_more h = absurd (lt_irrefl 0 h)
  raised_large (raise {x = x} {xs = xs} low h r) some = added_least 9 x xs (omega (arith, ints))

  -- the arithmetic: P the ratio, Q that of one microdecibel more, A the energies added
  gap : (P Q : ℕ) → 1000000000000 ≤ P → 100000023 * P < 100000000 * suc Q → P + 2 * (P / 10000000) ≤ Q
  gap P Q large more = omega arith

  grown : (P K A : ℕ) → 1000000000000 ≤ P → P < 10000000 * (K + 1) → 100000 ≤ K → 1000000000 ≤ A → suc P * (A + 96) + P < (P + 2 * K) * suc A
  grown P K A large near some many =
      let a : K * 1000000000 ≤ K * A = mul-le-mul_left K many in
      let b : 100000 * A ≤ K * A = mul-le-mul_right A some in
      omega (arith, a, b)

  apart : (P Q A B n E F : ℕ) → 1000000000000 ≤ P → 100000023 * P < 100000000 * suc Q → 1000000000 ≤ A → n ≤ 96 → A < E → F ≤ B → twelve_bels * B ≤ suc P * (A + n) → Q * E < twelve_bels * suc F → ⊥
  apart P Q A B n E F large more many few far fits sum fall =
      let K : ℕ = P / 10000000 in
      let g : suc P * (A + 96) + P < (P + 2 * K) * suc A = grown P K A large (omega arith) (omega arith) many in
      let a : (P + 2 * K) * suc A ≤ Q * E = mul-le-mul (gap P Q large more) far in
      let f : suc P * (A + n) ≤ suc P * (A + 96) = mul-le-mul_left (suc P) (omega arith) in
      short (suc P * (A + 96)) (suc P * (A + n)) ((P + 2 * K) * suc A) (Q * E) B F P large g a f fits sum fall
    where
      short : (w v x y b f p : ℕ) → 1000000000000 ≤ p → w + p < x → x ≤ y → v ≤ w → f ≤ b → twelve_bels * b ≤ v → y < twelve_bels * suc f → ⊥
      short w v x y b f p l g a h i s t = omega arith

  pub bare_raised : {xs ys : List ℤ} {x y : ℤ} → Raised c xs ys → 0 < length xs → length xs ≤ 96 → BareLevel (added xs) x → BareLevel (added ys) y → y ≤ℤ (x +ℤ pos (c + 1))
  bare_raised {xs} {ys} {x} {y} raised some few bare-x bare-y = go (dec_le (up y + dn (x +ℤ pos (c + 1))) (up (x +ℤ pos (c + 1)) + dn y))
    where
      clash : (x +ℤ pos 1 +ℤ pos (c + 1)) ≤ℤ y → ⊥
      clash far =
          apart (above c) (above (c + 1)) (added xs) (added ys) (length xs) (energy (x +ℤ pos 1)) (energy y) (above_large c) (above_more c) (raised_large raised some) few (bare_next bare-x) bare-y.fits (raised-added raised)
          (lower_energy (x +ℤ pos 1) y (lit≤ tt) (lower_any (c + 1)) far)

      go : Dec (up y + dn (x +ℤ pos (c + 1)) ≤ up (x +ℤ pos (c + 1)) + dn y) → y ≤ℤ (x +ℤ pos (c + 1))
      go (yes l) = is_le y (x +ℤ pos (c + 1)) l
      go (no l) = absurd (clash (omega (arith, ints, lt_of_not-le l, add_is x (pos (c + 1)), add_is x (pos 1), add_is (x +ℤ pos 1) (pos (c + 1)))))
