-- The search by halves: what it keeps, and what it has found when no speed is left between its bounds.
-- Assumes nothing.
use mathlib.Core.Path.{◌≡◌, refl, sym, ap, ◌∙◌, subst}
use mathlib.Core.Bool.{Bool, true, false, ◌&&◌}
use Prim.Native.Nat.{ℕ, zero, suc, ◌+◌, ◌-◌, ◌≤◌, ◌<◌}
use native.Mathlib.Omega.{arith}
use lib.Dec.{T, leb, le→leb, leb→le}
use lib.IntN.{ℤ}
use Rattle.decibel.specs.declared.Level.{Level}
use Rattle.decibel.proofs.Greatest.{greatest_only}
use Rattle.figures.specs.Rules.{most_speed}
use Rattle.emission.specs.Speed.{least_counted}
use Rattle.speeds.specs.Speeds.{stays_below, highest_below}
use Rattle.speeds.specs.Private.{speed_found}
use Rattle.std.specs.Prelude.{Some}
use Rattle.std.specs.Bool.{then_some}
use Rattle.std.proofs.lemmas.Bool.{leb-false}
use Rattle.speeds.proofs.Below.{below_falls}
use Rattle.speeds.proofs.Faster.{Rising}

-- between two bounds: at the lower one the total stays below the limit, unless no speed is found yet, and at no speed above the higher one
pub record Between (limit : ℤ) (total : ℕ → Level) (low high : ℕ) : Type 0 where
  pub least : least_counted ≤ low + 1
  pub order : low ≤ high
  pub most : high ≤ most_speed
  pub below : least_counted ≤ low → T (stays_below limit (total low))
  pub none : (v : ℕ) → high < v → v ≤ most_speed → T (stays_below limit (total v)) → ⊥

-- a speed that is one
found_some : (v : ℕ) → 0 < v → Some v ≡ speed_found v
unfolding speed_found
found_some zero h = absurd (omega (arith, h))
found_some (suc v) h = refl

module _ (limit : ℤ) (total : ℕ → Level) where
  module _ (low high middle : ℕ) (old : Between limit total low high) (left : low < middle) (right : middle ≤ high) where
    pub search_up : stays_below limit (total middle) ≡ true → Between limit total middle high
    search_up e = record { least = omega (arith, old.least); order = right; most = old.most; below = λ h. subst T (sym e) tt; none = old.none }

    pub search_down : Rising total → stays_below limit (total middle) ≡ false → Between limit total low (middle - 1)
    search_down rises e =
        record {
          least = old.least;
          order = omega arith;
          most = omega (arith, old.most);
          below = old.below;
          none = λ v l m t. subst T e (below_falls limit (rises middle v (omega (arith, old.least)) (omega arith) m) t);
        }

  both : (a b : Bool) → T a → T b → T (a && b)
  both true b p q = q
  both false b p q = absurd p

  second : (a b : Bool) → T (a && b) → T b
  second true b q = q
  second false b q = absurd q

  search_found : (low high : ℕ) → Between limit total low high → high ≤ low → least_counted ≤ low → low ≡ highest_below limit total
  unfolding highest_below
  search_found low high old met some =
      sym (greatest_only (λ v. leb least_counted v && stays_below limit (total v)) most_speed low (omega (arith, old.order, old.most)) (λ z. both (leb least_counted low) _ (le→leb least_counted low some) (old.below some))
      (λ m l h t. old.none m (omega arith) h (second (leb least_counted m) _ t)))

  search_none : (low high : ℕ) → Between limit total low high → high ≤ low → low < least_counted → 0 ≡ highest_below limit total
  unfolding highest_below
  search_none low high old met few =
      sym (greatest_only (λ v. leb least_counted v && stays_below limit (total v)) most_speed 0 (omega arith) (λ z. absurd (omega arith))
      (λ m l h t. old.none m (omega (arith, slowest m t)) h (second (leb least_counted m) _ t)))
    where
      slowest : (m : ℕ) → T (leb least_counted m && stays_below limit (total m)) → least_counted ≤ m
      slowest m t = leb→le least_counted m (first (leb least_counted m) _ t)
        where
          first : (a b : Bool) → T (a && b) → T a
          first true b q = tt
          first false b q = q

  -- what the search answers
  pub search_told : (low high : ℕ) → Between limit total low high → high ≤ low → then_some (leb least_counted low) low ≡ speed_found (highest_below limit total)
  unfolding speed_found
  search_told low high old met = go (leb least_counted low) refl
    where
      go : (b : Bool) → leb least_counted low ≡ b → then_some b low ≡ speed_found (highest_below limit total)
      go true e = let some : least_counted ≤ low = leb→le least_counted low (subst T (sym e) tt) in found_some low (omega (arith, some)) ∙ ap speed_found (search_found low high old met some)
      go false e = ap speed_found (search_none low high old met (leb-false least_counted low e))
