-- The loss by a wall on the far side: it commutes with rounding, the reduced fence is that of the reduced value, how far it lies from zero, and the
-- metres and the step as the code takes them.
-- Assumes nothing.
use mathlib.Core.Path.{◌≡◌, refl, sym, ◌∙◌, ap, subst}
use mathlib.Core.Bool.{Bool, true, false, cond}
use Prim.Native.Nat.{ℕ, zero, suc, ◌+◌, ◌*◌, ◌/◌, ◌≤◌, ◌<◌}
use native.Mathlib.Nat.{lt_irrefl}
use native.Mathlib.Omega.{arith}
use lib.Dec.{leb, lit<, lit≤}
use lib.IntN.{ℤ, pos, negsuc, neg_ℤ, ◌+ℤ◌, ◌-ℤ◌, +ℤ_comm}
use lib.Signed.{◌≤ℤ◌, ◌<ℤ◌}
use mir.Syntax.{w32}
use mir.Val.{SFits, to_z}
use borrow.Author.Tests.{le-leb, lt-leb, lt-ltb}
use Rattle.std.specs.Int.{int_min}
use Rattle.decibel.specs.Ints.{up, dn}
use Rattle.decibel.specs.Round.{micro, tie, nearest, IsFence, IsNearest}
use Rattle.decibel.proofs.Ints.{add_is, add_most, neg_is, from_parts, ints}
use Rattle.decibel.proofs.Round.{micro_is, tie_is, nearest-between, nearest_is, nearest_plus, nearest_exact}
use Rattle.figures.specs.declared.Segment.{Segment}
use Rattle.figures.specs.Bounds.{Below}
use Rattle.figures.specs.Private.{Exactly}
use Rattle.figures.proofs.Ranged.{Signed, Ranged}
use Rattle.figures.proofs.Signs.{read, below_back, natural_below, signed_below, cast_read, read_up, returned, Sum, summand, summed}
use Rattle.propagation.specs.Screen.{wall_metres, at_most_zero, reduced, ReducedAtLeast}

-- ---- the cut at zero

cut_is : (z : ℤ) → (up (at_most_zero z) ≡ 0) × (dn (at_most_zero z) ≡ dn z)
unfolding at_most_zero
cut_is (pos n) = (refl, refl)
cut_is (negsuc n) = (refl, refl)

-- the cut is the lesser of the number and zero
cut_min : (z : ℤ) → int_min z (pos 0) ≡ at_most_zero z
unfolding at_most_zero
cut_min (pos zero) = refl
cut_min (pos (suc n)) = rw (lt-ltb 0 (suc n) (omega arith)) refl
cut_min (negsuc n) = refl

-- the ties about r tenths, cut, lie about the number cut
cut_low : (f r : ℤ) → tie r ≤ℤ f → tie (at_most_zero r) ≤ℤ at_most_zero f
cut_low (pos a) r low = omega (arith, ints, tie_is (at_most_zero r), cut_is (pos a), cut_is r)
cut_low (negsuc a) r low = omega (arith, ints, low, tie_is r, tie_is (at_most_zero r), cut_is (negsuc a), cut_is r)

cut_high : (f r : ℤ) → f <ℤ tie (r +ℤ pos 1) → at_most_zero f <ℤ tie (at_most_zero r +ℤ pos 1)
cut_high f (pos b) high = let c = at_most_zero (pos b) in omega (arith, ints, cut_is f, cut_is (pos b), add_is c (pos 1), tie_is (c +ℤ pos 1))
cut_high f (negsuc b) high =
    let r = negsuc b in
    let c = at_most_zero r in
    omega (arith, ints, high, cut_is f, cut_is r, add_is r (pos 1), tie_is (r +ℤ pos 1), add_is c (pos 1), tie_is (c +ℤ pos 1))

nearest_cut : (f : ℤ) → nearest (at_most_zero f) ≡ at_most_zero (nearest f)
nearest_cut f =
    let w = nearest-between f in
    sym (nearest_is (at_most_zero f) (at_most_zero (nearest f)) (cut_low f (nearest f) w.0) (cut_high f (nearest f) w.1))

-- ---- rounding and the loss change places

pub none_lost : {loss : ℕ} (f : ℤ) → loss ≡ 0 → reduced loss f ≡ f
unfolding reduced
none_lost f e = rw e refl

pub some_lost : (loss : ℕ) (f : ℤ) → 0 < loss → reduced loss f ≡ at_most_zero (f +ℤ pos loss)
unfolding reduced
some_lost zero f h = absurd (lt_irrefl 0 h)
some_lost (suc k) f h = refl

half_tenths : (f : ℤ) (n : ℕ) → f +ℤ pos (500000 * n) ≡ micro (pos (5 * n)) +ℤ f
half_tenths f n =
    let a = f +ℤ pos (500000 * n) in
    let b = micro (pos (5 * n)) +ℤ f in
    from_parts a b (omega (arith, add_is f (pos (500000 * n)), add_is (micro (pos (5 * n))) f, micro_is (pos (5 * n))))

-- n metres, in microdecibels and in tenths
pub nearest-reduced : (n : ℕ) (f : ℤ) → nearest (reduced (500000 * n) f) ≡ reduced (5 * n) (nearest f)
nearest-reduced zero f = ap nearest (none_lost f refl) ∙ sym (none_lost (nearest f) refl)
nearest-reduced (suc k) f =
    let n = suc k in
    ap nearest (some_lost (500000 * n) f (omega arith))
    ∙ nearest_cut (f +ℤ pos (500000 * n))
    ∙ ap at_most_zero (ap nearest (half_tenths f n) ∙ nearest_plus (pos (5 * n)) f ∙ +ℤ_comm (pos (5 * n)) (nearest f))
    ∙ sym (some_lost (5 * n) (nearest f) (omega arith))

-- ---- the reduced fence

cut_under : (z : ℤ) → at_most_zero z ≤ℤ z
cut_under (pos n) = omega (arith, ints, cut_is (pos n))
cut_under (negsuc n) = omega (arith, ints, cut_is (negsuc n))

cut_top : (m z : ℤ) → m ≤ℤ pos 0 → m ≤ℤ z → m ≤ℤ at_most_zero z
cut_top m (pos n) h l = omega (arith, ints, h, cut_is (pos n))
cut_top m (negsuc n) h l = omega (arith, ints, l, cut_is (negsuc n))

-- of a value that is at least every number below one that it is at least
module _ (Low : ℤ → Type 0) (falls : (m n : ℤ) → m ≤ℤ n → Low n → Low m) where
  pub fence-reduced : (loss : ℕ) (f : ℤ) → IsFence Low f → IsFence (ReducedAtLeast loss Low) (reduced loss f)
  unfolding reduced ReducedAtLeast
  fence-reduced zero f h = h
  fence-reduced (suc k) f h =
      let n = suc k in
      let z = f +ℤ pos n in
      let r = at_most_zero z in
      let a = add_is f (pos n) in
      let b = neg_is (pos n) in
      record {
        fits = (omega (arith, ints, cut_is z), falls (r -ℤ pos n) f (omega (arith, ints, cut_under z, a, b, add_is r (neg_ℤ (pos n)))) h.fits);
        top = λ m l. cut_top m z l.0 (omega (arith, ints, a, b, add_is m (neg_ℤ (pos n)), h.top (m -ℤ pos n) l.1));
      }

  reduced_falls : (loss : ℕ) (m n : ℤ) → m ≤ℤ n → ReducedAtLeast loss Low n → ReducedAtLeast loss Low m
  unfolding ReducedAtLeast
  reduced_falls zero m n h l = falls m n h l
  reduced_falls (suc k) m n h l =
      let q = pos (suc k) in
      (omega (arith, ints, h, l.0), falls (m -ℤ q) (n -ℤ q) (omega (arith, ints, h, add_is m (neg_ℤ q), add_is n (neg_ℤ q))) l.1)

  -- the tenth is the nearest of the reduced value
  pub reduced_tenth_nearest : (loss : ℕ) (f : ℤ) → IsFence Low f → IsNearest (ReducedAtLeast loss Low) (nearest (reduced loss f))
  reduced_tenth_nearest loss f h = nearest_exact (ReducedAtLeast loss Low) (reduced_falls loss) (reduced loss f) (fence-reduced loss f h)

-- nothing is lost of nothing
pub none_reduced : (loss : ℕ) → reduced loss (pos 0) ≡ pos 0
unfolding reduced at_most_zero
none_reduced zero = refl
none_reduced (suc k) = refl

-- ---- how far it lies from zero

pub lies_reduced : {l u : ℕ} (loss : ℕ) {f : ℤ} → Signed l u f → Signed l u (reduced loss f)
unfolding reduced
lies_reduced zero a = a
lies_reduced (suc k) {f} a =
    let z = f +ℤ pos (suc k) in
    record { most = omega (arith, cut_is z); least = omega (arith, cut_is z, add_most f (pos (suc k)), a.least) }

-- ---- as the code takes it

-- the metres
module _ {s : Segment} (g : Ranged s) {n : ℕ} (e : n ≡ up (read s.wall)) where
  wall_read : up s.wall ≡ n
  wall_read = sym (read_up (lit< tt) g.wall e)

  pub low_wall : n < 15 → 0 ≡ wall_metres s
  unfolding wall_metres
  low_wall h = sym (rw (wall_read, lt-leb 15 n h) refl)

  pub high_wall : 15 ≤ n → (n + 5) / 10 ≡ wall_metres s
  unfolding wall_metres
  high_wall h = sym (rw (wall_read, le-leb 15 n h) refl)

pub metres_most : {s : Segment} → Ranged s → wall_metres s ≤ 10
unfolding wall_metres
metres_most {s} g = go (leb 15 (up s.wall))
  where
    go : (b : Bool) → cond b ((up s.wall + 5) / 10) 0 ≤ 10
    go true = omega (arith, g.wall.most)
    go false = lit≤ tt

-- the same of what the code works out
pub few_metres : {s : Segment} {m : ℕ} → Ranged s → m ≡ wall_metres s → m ≤ 10
few_metres g e = omega (arith, e, metres_most g)

-- the step, r tenths before the loss of n metres
module _ (n : ℕ) (r : ℤ) (below : Below 2000 r) where
  pub lossless : n < 1 → Exactly (reduced (5 * n) r) (read r)
  lossless h = returned (lit≤ tt) (sym (none_lost r (omega arith))) below

  reduced_small : Below 2000 (reduced (5 * n) r)
  reduced_small =
      let s : Signed 1999 1999 r = record { most = omega (arith, below.most); least = omega (arith, below.least) } in
      signed_below (lit< tt) (lit< tt) (lies_reduced (5 * n) s)

  with_loss : 1 ≤ n → reduced (5 * n) r ≡ at_most_zero (r +ℤ pos (5 * n))
  with_loss h = some_lost (5 * n) r (omega arith)

  module _ (most : n ≤ 10) where
    -- the loss, as it is cast
    loss_cast : to_z w32 (5 * n) ≡ read (pos (5 * n))
    loss_cast = cast_read (5 * n) (omega arith) ∙ sym (below_back (natural_below (omega arith)))

    loss_small : Below 51 (pos (5 * n))
    loss_small = natural_below (omega arith)

    pub loss_fits : SFits w32 (read r +ℤ to_z w32 (5 * n))
    loss_fits = rw loss_cast (summand below loss_small (lit≤ tt))

    lost : Sum 2051 r (pos (5 * n)) (read (read r +ℤ to_z w32 (5 * n)))
    lost = rw loss_cast (summed below loss_small (lit≤ tt))

    pub loss_cut : {m : ℤ} → 1 ≤ n → m ≡ int_min (read (read r +ℤ to_z w32 (5 * n))) (pos 0) → Exactly (reduced (5 * n) r) (read m)
    loss_cut h e =
        let i = e ∙ ap (λ (z : ℤ). int_min z (pos 0)) lost.is ∙ cut_min (r +ℤ pos (5 * n)) ∙ sym (with_loss h) in
        returned (lit≤ tt) i (subst (Below 2000) (sym i) reduced_small)
