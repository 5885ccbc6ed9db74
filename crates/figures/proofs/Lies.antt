-- How far numbers and fences lie from zero, and tenths near them.
-- Assumes nothing.
use mathlib.Core.Path.{◌≡◌, sym, subst}
use Prim.Native.Nat.{ℕ, ◌+◌, ◌-◌, ◌*◌, ◌^◌, ◌≤◌, ◌<◌}
use native.Mathlib.Nat.{le_trans}
use native.Mathlib.Omega.{arith}
use lib.IntN.{ℤ, pos, negsuc, neg_ℤ, ◌+ℤ◌, ◌-ℤ◌}
use Rattle.decibel.specs.Ints.{up, dn}
use Rattle.decibel.specs.Log.{fence}
use Rattle.decibel.specs.Round.{micro, IsFence}
use Rattle.decibel.proofs.Ints.{add_is, add_most, neg_is, le_is, is_le, from_parts, ints}
use Rattle.decibel.proofs.Round.{Near, micro_is}
use Rattle.decibel.proofs.Fences.{fence_low, fence_high}
use Rattle.figures.proofs.Ranged.{From, Signed}

-- ---- numbers from -l to u

pub lies_add : {l u l' u' : ℕ} {x y : ℤ} → Signed l u x → Signed l' u' y → Signed (l + l') (u + u') (x +ℤ y)
lies_add {x = x} {y} a b = record { most = omega (arith, add_most x y, a.most, b.most); least = omega (arith, add_most x y, a.least, b.least) }

pub lies_within : {l u l' u' : ℕ} {x : ℤ} → l ≤ l' → u ≤ u' → Signed l u x → Signed l' u' x
lies_within h k a = record { most = le_trans a.most k; least = le_trans a.least h }

pub lies_from : {a b : ℕ} {x : ℤ} → From a b x → Signed 0 b x
lies_from f = record { most = f.most; least = omega (arith, f.sign) }

pub lies_fence : (c i j s num den : ℕ) → 0 < num → 0 < den → den ≤ num * 10 ^ i → num ≤ den * 10 ^ j → Signed (i * s) (c + j * s) (fence c s num den)
lies_fence c i j s num den p q h k = record { most = fence_high c j s num den p q k; least = fence_low c i s num den p q h }

pub lies_micro : {l u : ℕ} {x : ℤ} → Signed l u x → Signed (100000 * l) (100000 * u) (micro x)
lies_micro {x = x} a = record { most = omega (arith, micro_is x, a.most); least = omega (arith, micro_is x, a.least) }

less_most : (x z : ℤ) (n u : ℕ) → up x ≤ u → up z + dn x + n ≡ up x + dn z → up z ≤ u - n
less_most x (pos a) n u h e = omega arith
less_most x (negsuc a) n u h e = omega arith

pub lies_less : {l u : ℕ} (x : ℤ) (n : ℕ) → Signed l u x → Signed (l + n) (u - n) (x -ℤ pos n)
lies_less x n a =
    record {
      most = less_most x (x -ℤ pos n) n _ a.most (omega (arith, add_is x (neg_ℤ (pos n)), neg_is (pos n)));
      least = omega (arith, add_most x (neg_ℤ (pos n)), neg_is (pos n), a.least);
    }

-- tenths near a fence lie where it does
pub near_lies : {lo hi l u : ℕ} (a b : ℕ) (r f : ℤ) → l + lo ≤ 100000 * a → u + hi ≤ 100000 * b → Near lo hi r f → Signed l u f → Signed a b r
near_lies {lo} {hi} {l} {u} a b (pos n) f h k w g =
    record { most = omega (arith, ints, w.high, micro_is (pos n), add_is f (pos hi), g.most); least = omega arith }
near_lies {lo} {hi} {l} {u} a b (negsuc n) f h k w g =
    record { most = omega arith; least = omega (arith, ints, w.low, micro_is (negsuc n), add_is (micro (negsuc n)) (pos lo), g.least) }

-- ---- a whole number can be taken off a value or off its fence

pub fence_less : (Low : ℤ → Type 0) (f : ℤ) (n : ℕ) → IsFence Low f → IsFence (λ m. Low (m +ℤ pos n)) (f -ℤ pos n)
fence_less Low f n h =
    let g = f -ℤ pos n in
    record {
      fits = subst Low (sym (from_parts (g +ℤ pos n) f (omega (arith, add_is g (pos n), add_is f (neg_ℤ (pos n)), neg_is (pos n))))) h.fits;
      top = λ m l. is_le m g (omega (arith, le_is (m +ℤ pos n) f (h.top (m +ℤ pos n) l), add_is m (pos n), add_is f (neg_ℤ (pos n)), neg_is (pos n)));
    }
