-- The ground step: its own mark is allowed, and its tenths are those of its fence by that mark.
-- Assumes nothing.
use mathlib.Core.Path.{◌≡◌, refl, sym, ◌∙◌, ap}
use mathlib.Core.Bool.{Bool, true, false, cond, false≢true}
use mathlib.Core.Logic.{◌⊎◌, inl, inr}
use Prim.Native.Nat.{ℕ, ◌+◌, ◌-◌, ◌*◌, ◌/◌, ◌%◌, ◌≤◌, ◌<◌}
use native.Mathlib.Nat.{lt_of_not-le, mul-le-mul, mul-zero, zero-div}
use native.Mathlib.Decide.{dec_le}
use native.Mathlib.Omega.{arith}
use lib.Dec.{ltb, lit<, lit≤}
use lib.IntN.{ℤ, pos, negsuc, neg_ℤ, ◌+ℤ◌, ◌-ℤ◌}
use borrow.Author.Tests.{le-leb, lt-leb, ltb-true}
use Rattle.decibel.specs.Ints.{up, dn}
use Rattle.decibel.specs.Greatest.{clamp}
use Rattle.decibel.specs.Fine.{most_number, fine_log, fine_log_at}
use Rattle.decibel.specs.Log.{AtLeast, AtMost}
use Rattle.decibel.specs.Round.{tie, nearest, by_mark, IsFence, MarkAllowed}
use Rattle.decibel.proofs.Ints.{add_is, neg_is, ints}
use Rattle.decibel.proofs.Greatest.{clamp_same, clamp-within}
use Rattle.decibel.proofs.Round.{tie_is, nearest_is, unmarked-nearest, marked_louder, mark_settles}
use Rattle.decibel.proofs.Exact.{fence_is, log_ordered}
use Rattle.decibel.proofs.Attenuation.{scaled_log, negative_low, negative_high, negative_above}
use Rattle.figures.specs.declared.Segment.{Segment}
use Rattle.figures.specs.Rules.{unscreened}
use Rattle.figures.proofs.Ranged.{Ranged}
use Rattle.propagation.specs.Screen.{screen_fence}
use Rattle.propagation.specs.Ground.{ground_factor, grounded, ground_fence, path_fence, is_close, GroundMarkBy, GroundMark, GroundSettledBy, GroundSettled, attenuation, ground_mark}

close_within : (a : ℕ) → 48500 ≤ a % 100000 → a % 100000 ≤ 51500 → is_close a ≡ true
close_within a l h = rw (le-leb 48500 (a % 100000) l, le-leb (a % 100000) 51500 h) refl

close_under : (a : ℕ) → a % 100000 < 48500 → is_close a ≡ false
close_under a h = rw (lt-leb 48500 (a % 100000) h) refl

close_over : (a : ℕ) → 51500 < a % 100000 → is_close a ≡ false
close_over a h = let l : 48500 ≤ a % 100000 = omega arith in rw (le-leb 48500 (a % 100000) l, lt-leb (a % 100000) 51500 h) refl

-- ---- a value that is at most 151 above -a, and less than 2 below it

module _ (a : ℕ) (Low High : ℤ → Type 0) (low : (m : ℤ) → Low m → up m + a ≤ dn m + 151) (high : (m : ℤ) → High m → dn m < a + 2 + up m) where
  near_tie : (t : ℤ) → Low (tie t -ℤ pos 1000) → High (tie t +ℤ pos 1000) → is_close a ≡ true
  near_tie t l h =
      let x = add_is (tie t) (negsuc 999) in
      let y = add_is (tie t) (pos 1000) in
      let z = tie_is t in
      let i = low (tie t -ℤ pos 1000) l in
      let j = high (tie t +ℤ pos 1000) h in
      close_within a (omega arith) (omega arith)

  far_from_ties : ((t : ℤ) → High (tie t -ℤ pos 2000) ⊎ Low (tie t +ℤ pos 2000)) → is_close a ≡ false
  far_from_ties f = go (dec_le 48500 (a % 100000)) (dec_le (a % 100000) 51500)
    where
      t : ℤ
      t = neg_ℤ (pos (a / 100000))

      out : (High (tie t -ℤ pos 2000) ⊎ Low (tie t +ℤ pos 2000)) → 48500 ≤ a % 100000 → a % 100000 ≤ 51500 → ⊥
      out (inl h) l u = omega (arith, high (tie t -ℤ pos 2000) h, add_is (tie t) (negsuc 1999), tie_is t, neg_is (pos (a / 100000)))
      out (inr h) l u = omega (arith, low (tie t +ℤ pos 2000) h, add_is (tie t) (pos 2000), tie_is t, neg_is (pos (a / 100000)))

      go : Dec (48500 ≤ a % 100000) → Dec (a % 100000 ≤ 51500) → is_close a ≡ false
      go (no x) y = close_under a (lt_of_not-le x)
      go (yes x) (no y) = close_over a (lt_of_not-le y)
      go (yes x) (yes y) = let z : ⊥ = out (f t) x y in absurd z

  pub close_allowed : MarkAllowed Low High (is_close a)
  close_allowed = record { required = near_tie; forbidden = far_from_ties }

-- its fence, to the tenth
pub ground_tenths_are : (a : ℕ) (f : ℤ) → up f + a ≤ dn f + 151 → dn f ≤ a + 2 + up f → neg_ℤ (pos ((a + 48499) / 100000)) ≡ by_mark (is_close a) f
ground_tenths_are a f low high = go (dec_le 48500 (a % 100000)) (dec_le (a % 100000) 51500)
  where
    r : ℤ
    r = neg_ℤ (pos ((a + 48499) / 100000))

    unmarked : is_close a ≡ false → r ≡ nearest f → r ≡ by_mark (is_close a) f
    unmarked e i = i ∙ sym (rw e (unmarked-nearest f))

    n : (up r ≡ 0) × (dn r ≡ (a + 48499) / 100000)
    n = neg_is (pos ((a + 48499) / 100000))

    go : Dec (48500 ≤ a % 100000) → Dec (a % 100000 ≤ 51500) → r ≡ by_mark (is_close a) f
    go (yes l) (yes h) = rw (close_within a l h) (sym (marked_louder f r (omega (arith, ints, n, tie_is r, add_is (tie r) (negsuc 1999))) (omega (arith, ints, n, tie_is r, add_is (tie r) (pos 2000)))))
    go (no l) d = unmarked (close_under a (lt_of_not-le l)) (nearest_is f r (omega (arith, ints, n, tie_is r, lt_of_not-le l)) (omega (arith, ints, n, tie_is (r +ℤ pos 1), add_is r (pos 1), lt_of_not-le l)))
    go (yes l) (no h) = unmarked (close_over a (lt_of_not-le h)) (nearest_is f r (omega (arith, ints, n, tie_is r, lt_of_not-le h)) (omega (arith, ints, n, tie_is (r +ℤ pos 1), add_is r (pos 1), lt_of_not-le h)))

-- ---- a segment

-- ground counts only above 25 m
grounded_far : (s : Segment) → grounded s ≡ true → 2500 < up s.distance
unfolding grounded
grounded_far s e = go (unscreened s) e
  where
    go : (b : Bool) → cond b (ltb 2500 (up s.distance)) false ≡ true → 2500 < up s.distance
    go true e = ltb-true 2500 (up s.distance) e
    go false e = absurd (false≢true e)

pub factor_most : {s : Segment} → Ranged s → ground_factor s ≤ 3000000
unfolding ground_factor
factor_most {s} g =
    let c = clamp-within 100 600 (up s.mean) (lit≤ tt) in
    let l : 600 * up s.soft ≤ 6000 = omega (arith, g.soft.most) in
    let h : 600 - clamp 100 600 (up s.mean) ≤ 500 = omega (arith, c.0) in
    mul-le-mul l h

pub attenuation_is : {s : Segment} → Ranged s → attenuation s ≡ scaled_log (up s.distance) (ground_factor s)
unfolding attenuation fine_log_at
attenuation_is {s} g =
    let d = g.distance in
    let l : 1 ≤ 4 * up s.distance = omega (arith, d.least) in
    let h : 4 * up s.distance ≤ most_number = omega (arith, d.most) in
    ap (λ (n : ℕ). (fine_log n - 40000000) * ground_factor s / 10000000) (sym (clamp_same 1 most_number (4 * up s.distance) l h))

module _ {s : Segment} (g : Ranged s) (far : 2500 < up s.distance) where
  near : 2500 ≤ up s.distance
  near = omega arith

  at_least : (m : ℤ) → AtLeast 0 (ground_factor s) 2500 (up s.distance) m → up m + attenuation s ≤ dn m + 151
  at_least m a = rw (attenuation_is g) (negative_high (up s.distance) near g.distance.most (ground_factor s) (factor_most g) m a)

  at_most : (m : ℤ) → AtMost 0 (ground_factor s) 2500 (up s.distance) m → dn m < attenuation s + 2 + up m
  at_most m a = rw (attenuation_is g) (negative_above (up s.distance) near g.distance.most (ground_factor s) (factor_most g) m a)

  fence_near : (up (ground_fence s) + attenuation s ≤ dn (ground_fence s) + 151) × (dn (ground_fence s) ≤ attenuation s + 2 + up (ground_fence s))
  unfolding ground_fence
  fence_near =
      let f = fence_is 0 (ground_factor s) 2500 (up s.distance) (lit< tt) (omega arith) in
      let m = negsuc (attenuation s + 1) in
      let b = f.top m (negative_low (up s.distance) near g.distance.most (ground_factor s) (factor_most g) m (omega (arith, attenuation_is g))) in
      (at_least (ground_fence s) f.fits, omega (arith, ints, b))

  pub far_mark_allowed : MarkAllowed (AtLeast 0 (ground_factor s) 2500 (up s.distance)) (AtMost 0 (ground_factor s) 2500 (up s.distance)) (is_close (attenuation s))
  far_mark_allowed = close_allowed (attenuation s) (AtLeast 0 (ground_factor s) 2500 (up s.distance)) (AtMost 0 (ground_factor s) 2500 (up s.distance)) at_least at_most

  -- the tenths that the attenuation gives are those of the fence by the mark
  pub far_tenths_are : neg_ℤ (pos ((attenuation s + 48499) / 100000)) ≡ by_mark (is_close (attenuation s)) (ground_fence s)
  far_tenths_are = ground_tenths_are (attenuation s) (ground_fence s) fence_near.0 fence_near.1

-- The program's own mark is a `GroundMark`.
pub ground_mark_allowed : (s : Segment) → Ranged s → GroundMark s (ground_mark s)
unfolding GroundMark GroundMarkBy ground_mark
ground_mark_allowed s g = go (grounded s) refl
  where
    go : (b : Bool) → grounded s ≡ b → GroundMarkBy b s (cond b (is_close (attenuation s)) false)
    go true e = far_mark_allowed g (grounded_far s e)
    go false e = refl

-- where ground counts, it is the step
pub ground_path : (s : Segment) → grounded s ≡ true → path_fence s ≡ ground_fence s
unfolding path_fence grounded
ground_path s e = go (unscreened s) e
  where
    go : (b : Bool) → cond b (ltb 2500 (up s.distance)) false ≡ true → cond b (cond (cond b (ltb 2500 (up s.distance)) false) (ground_fence s) (pos 0)) (screen_fence s) ≡ ground_fence s
    go true e = rw e refl
    go false e = absurd (false≢true e)

-- its fence is that of its exact value
pub ground_fence_lem : (s : Segment) → grounded s ≡ true → IsFence (AtLeast 0 (ground_factor s) 2500 (up s.distance)) (path_fence s)
unfolding ground_fence
ground_fence_lem s e = rw (ground_path s e) (fence_is 0 (ground_factor s) 2500 (up s.distance) (lit< tt) (omega (arith, grounded_far s e)))

-- Every allowed mark gives the louder neighbour where it is set, and the nearest tenth where not.
pub ground_settled : (s : Segment) (mark : Bool) → GroundMark s mark → GroundSettled s mark (by_mark mark (path_fence s))
unfolding GroundMark GroundMarkBy GroundSettled GroundSettledBy
ground_settled s mark allowed = go (grounded s) refl allowed
  where
    go : (b : Bool) → grounded s ≡ b → GroundMarkBy b s mark → GroundSettledBy b s mark (by_mark mark (path_fence s))
    go true e a =
        mark_settles (AtLeast 0 (ground_factor s) 2500 (up s.distance)) (AtMost 0 (ground_factor s) 2500 (up s.distance)) (log_ordered 0 (ground_factor s) 2500 (up s.distance))
        (path_fence s) (ground_fence_lem s e) mark a
    go false e a = (a, rw a (unmarked-nearest (path_fence s)))

-- Ground that is not soft is never marked.
pub no_factor_unmarked : (s : Segment) → ground_factor s ≡ 0 → ground_mark s ≡ false
unfolding ground_mark attenuation
no_factor_unmarked s e = go (grounded s) none
  where
    none : attenuation s ≡ 0
    none = rw (e, mul-zero (fine_log_at (4 * up s.distance) - 40000000)) (zero-div 10000000)

    go : (b : Bool) → attenuation s ≡ 0 → cond b (is_close (attenuation s)) false ≡ false
    go true i = rw i refl
    go false i = refl
