-- The screen step: the three lengths and the path difference as the code takes them, the formulas, how far they lie from zero.
-- Assumes nothing.
use mathlib.Core.Path.{◌≡◌, refl, sym, ◌∙◌, ap, ap₂, subst}
use mathlib.Core.Bool.{Bool, true, false, cond}
use Prim.Native.Nat.{ℕ, ◌+◌, ◌-◌, ◌*◌, ◌≤◌, ◌<◌}
use native.Mathlib.Nat.{le_trans, lt_irrefl, lt_of_lt_of_le, lt_of_not-le, mul-le-mul}
use native.Mathlib.Omega.{arith}
use lib.Dec.{leb, lit<, lit≤}
use lib.IntN.{ℤ, pos, negsuc, neg_ℤ, ◌-ℤ◌}
use mir.Syntax.{w32}
use mir.Val.{SFits}
use borrow.Author.Tests.{leb-true, le-leb, lt-leb}
use Rattle.decibel.specs.Ints.{up, dn}
use Rattle.decibel.specs.Greatest.{whole_root}
use Rattle.decibel.specs.Log.{fence}
use Rattle.decibel.specs.Lookup.{shadow, illuminated, tenths_at, fence_at, lowest, highest, Tenth}
use Rattle.decibel.specs.Round.{nearest}
use Rattle.decibel.proofs.Ints.{add_is, add_most, neg_is, mag_most}
use Rattle.decibel.proofs.Greatest.{root_low}
use Rattle.figures.specs.declared.Segment.{Segment}
use Rattle.figures.specs.Geometry.{slant, slant_square, in_shadow}
use Rattle.figures.specs.Rules.{most_distance}
use Rattle.figures.specs.Bounds.{Below}
use Rattle.figures.specs.Private.{Exactly}
use Rattle.figures.proofs.Ranged.{From, Signed, Ranged}
use Rattle.figures.proofs.Signs.{read, below_back, from_below, signed_below, natural_below, exactly_read}
use Rattle.figures.proofs.Squares.{slant_most}
use Rattle.figures.proofs.Tenths.{tenths_of_lem}
use Rattle.figures.proofs.Lies.{lies_within, lies_fence}
use Rattle.propagation.specs.Screen.{length_of, path_difference, most_shadow, screen_formula, wall_metres, wall_loss, reduced, screen_fence}
use Rattle.propagation.specs.Private.{Length}
use Rattle.propagation.proofs.DistanceStep.{slant_square_most}
use Rattle.propagation.proofs.WallLoss.{nearest-reduced, lies_reduced}

-- ---- lengths

root_under : (n k : ℕ) → n < k * k → whole_root 2 n < k
root_under n k h = lt_of_not-le (λ l. lt_irrefl n (lt_of_lt_of_le h (le_trans (mul-le-mul l l) (root_low n))))

pub length_is : (n r : ℕ) → n ≤ 1800000000 → r ≡ whole_root 2 (10000000000 * n) → Length n r
unfolding length_of
length_is n r h e =
    let l : 10000000000 * n < 4294967296 * 4294967296 = omega arith in
    record { is = e; small = subst (λ (x : ℕ). x < 4294967296) (sym e) (root_under (10000000000 * n) 4294967296 l) }

-- a length by what its square is
pub length_by : {n m r : ℕ} → n ≡ m → Length n r → Length m r
length_by {r = r} e l = subst (λ (x : ℕ). Length x r) e l

-- ---- the three lengths at a screen

less_size : (a b : ℤ) → dn a ≡ 0 → dn b ≡ 0 → up b ≤ up a → up (a -ℤ b) + dn (a -ℤ b) ≤ up a
less_size a b e g h = cases (a -ℤ b) (add_is a (neg_ℤ b)) (neg_is b)
  where
    cases : (z : ℤ) → up z + dn a + dn (neg_ℤ b) ≡ up a + up (neg_ℤ b) + dn z → (up (neg_ℤ b) ≡ dn b) × (dn (neg_ℤ b) ≡ up b) → up z + dn z ≤ up a
    cases (pos n) p q = omega arith
    cases (negsuc n) p q = omega arith

-- a small difference of two small figures, as it is taken
module _ (a b : ℤ) (f : Below 40000 a) (g : Below 40000 b) where
  difference_back : read a -ℤ read b ≡ a -ℤ b
  difference_back = ap₂ ◌-ℤ◌ (below_back (wide f)) (below_back (wide g))
    where
      wide : {z : ℤ} → Below 40000 z → Below 1000000 z
      wide h = record { most = omega (arith, h.most); least = omega (arith, h.least) }

  difference_small : Below 100000 (a -ℤ b)
  difference_small = record { most = omega (arith, add_most a (neg_ℤ b), neg_is b, f.most, g.least); least = omega (arith, add_most a (neg_ℤ b), neg_is b, f.least, g.most) }

  pub difference_fits : SFits w32 (read a -ℤ read b)
  difference_fits = rw difference_back (record { sfits = omega (arith, mag_most (a -ℤ b), difference_small.most, difference_small.least) })

  pub difference_read : read (read a -ℤ read b) ≡ a -ℤ b
  difference_read = ap read difference_back ∙ below_back (record { most = omega (arith, difference_small.most); least = omega (arith, difference_small.least) })

module _ {s : Segment} (g : Ranged s) where
  setback_most : From 0 most_distance s.setback
  setback_most = record { least = omega arith; most = le_trans g.setback.most g.distance.most; sign = g.setback.sign }

  read_setback : read s.setback ≡ s.setback
  read_setback = below_back (from_below (lit< tt) setback_most)

  read_top : read s.top ≡ s.top
  read_top = below_back (signed_below (lit< tt) (lit< tt) g.top)

  pub depth_fits : SFits w32 (read s.distance -ℤ read s.setback)
  depth_fits = difference_fits s.distance s.setback (from_below (lit< tt) g.distance) (from_below (lit< tt) setback_most)

  pub rise_fits : SFits w32 (read s.height -ℤ read s.top)
  rise_fits = difference_fits s.height s.top (signed_below (lit< tt) (lit< tt) g.height) (signed_below (lit< tt) (lit< tt) g.top)

  -- the squares of the first two lengths, from the figures as read
  pub first_square : {n : ℕ} → n ≡ slant (read s.setback) (read s.top) → n ≡ slant s.setback s.top
  first_square e = e ∙ ap₂ slant read_setback read_top

  pub second_square : {n : ℕ} → n ≡ slant (read (read s.distance -ℤ read s.setback)) (read (read s.height -ℤ read s.top)) → n ≡ slant (s.distance -ℤ s.setback) (s.height -ℤ s.top)
  second_square e =
      e
      ∙ ap₂ slant (difference_read s.distance s.setback (from_below (lit< tt) g.distance) (from_below (lit< tt) setback_most))
      (difference_read s.height s.top (signed_below (lit< tt) (lit< tt) g.height) (signed_below (lit< tt) (lit< tt) g.top))

  pub first_fits : slant s.setback s.top ≤ 1800000000
  first_fits = omega (arith, slant_most s.setback s.top 30000 7000 (omega (arith, setback_most.most, setback_most.sign)) (omega (arith, g.top.most, g.top.least)))

  pub second_fits : slant (s.distance -ℤ s.setback) (s.height -ℤ s.top) ≤ 1800000000
  second_fits =
      omega (
        arith,
        slant_most (s.distance -ℤ s.setback) (s.height -ℤ s.top) 30000 17000
            (le_trans (less_size s.distance s.setback g.distance.sign g.setback.sign g.setback.most) g.distance.most)
            (omega (arith, add_most s.height (neg_ℤ s.top), neg_is s.top, g.height.most, g.height.least, g.top.most, g.top.least)),
      )

  pub third_fits : slant_square s ≤ 1800000000
  third_fits = omega (arith, slant_square_most g)

pub path_is : (s : Segment) {a b c : ℕ} → Length (slant s.setback s.top) a → Length (slant (s.distance -ℤ s.setback) (s.height -ℤ s.top)) b → Length (slant_square s) c → a + b - c ≡ path_difference s
unfolding path_difference
path_is s k l m = omega (arith, k.is, l.is, m.is)

-- ---- the formulas

pub screen_shaded : {b : Bool} {m : ℕ} {r : ℤ} → b ≡ true → m ≤ most_shadow → Tenth (tenths_at shadow (52000000 + 203 * m)) r → Exactly (nearest (screen_formula b m)) (read r)
unfolding screen_formula fence_at lowest highest
screen_shaded {m = m} e h a = rw e (exactly_read (tenths_of_lem shadow (52000000 + 203 * m) (omega arith) (omega arith) a))

pub screen_lit : {b : Bool} {m : ℕ} {r : ℤ} → b ≡ false → m ≤ 4000000 → Tenth (tenths_at illuminated (m + 10000)) r → Exactly (nearest (screen_formula b m)) (read r)
unfolding screen_formula fence_at lowest highest
screen_lit {m = m} e h a = rw (e, le-leb m 4000000 h) (exactly_read (tenths_of_lem illuminated (m + 10000) (omega arith) (omega arith) a))

pub screen_clear : {b : Bool} {m : ℕ} → b ≡ false → 4000000 < m → Exactly (nearest (screen_formula b m)) (pos 0)
unfolding screen_formula nearest
screen_clear {m = m} e h = rw (e, lt-leb m 4000000 h) (record { is = refl; small = natural_below (lit< tt) })

-- the step after the loss of n metres, from r tenths by the formulas
pub screen_is : (s : Segment) {b : Bool} {m n : ℕ} {r : ℤ} → b ≡ in_shadow s → m ≡ path_difference s → n ≡ wall_metres s → Exactly (nearest (screen_formula b m)) r → reduced (5 * n) r ≡ nearest (screen_fence s)
unfolding screen_fence wall_loss
screen_is s {n = n} e f i t =
    ap₂ (λ (x : ℕ) (y : ℤ). reduced (5 * x) y) i (t.is ∙ ap₂ (λ (x : Bool) (y : ℕ). nearest (screen_formula x y)) e f)
    ∙ sym (nearest-reduced (wall_metres s) (screen_formula (in_shadow s) (path_difference s)))

-- ---- how far they lie from zero

shade_lies : (m : ℕ) → m ≤ most_shadow → Signed 23250000 3020000 (screen_formula true m)
unfolding screen_formula
shade_lies m h =
    lies_within (lit≤ tt) (lit≤ tt) (lies_fence 0 3 0 7750000 10000000 (52000000 + 203 * m) (lit< tt) (omega arith) (omega arith) (omega arith))

lit_lies : (m : ℕ) → Signed 23250000 3020000 (screen_formula false m)
unfolding screen_formula
lit_lies m = go (leb m 4000000) refl
  where
    go : (b : Bool) → leb m 4000000 ≡ b → Signed 23250000 3020000 (cond b (fence 880000 2140000 (m + 10000) 10000000) (pos 0))
    go true e =
        let h : m ≤ 4000000 = leb-true m 4000000 e in
        lies_within (lit≤ tt) (lit≤ tt) (lies_fence 880000 3 1 2140000 (m + 10000) 10000000 (omega arith) (lit< tt) (omega arith) (omega arith))
    go false e = record { most = lit≤ tt; least = lit≤ tt }

pub screen_lies : (s : Segment) → (in_shadow s ≡ true → path_difference s ≤ most_shadow) → Signed 23250000 3020000 (screen_fence s)
unfolding screen_fence
screen_lies s f = go (in_shadow s) refl
  where
    go : (b : Bool) → in_shadow s ≡ b → Signed 23250000 3020000 (reduced (wall_loss s) (screen_formula b (path_difference s)))
    go true e = lies_reduced (wall_loss s) (shade_lies (path_difference s) (f e))
    go false e = lies_reduced (wall_loss s) (lit_lies (path_difference s))
