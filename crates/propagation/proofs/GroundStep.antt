-- The ground step: its own mark is allowed, the attenuation and the tenths as the code takes them; ground or the screen instead of it.
-- Assumes nothing.
use mathlib.Core.Path.{◌≡◌, refl, sym, ◌∙◌, ap, ap₂, subst}
use mathlib.Core.Bool.{Bool, true, false, cond}
use Prim.Native.Nat.{ℕ, ◌+◌, ◌-◌, ◌*◌, ◌/◌, ◌≤◌, ◌<◌, zero-le}
use native.Mathlib.Nat.{le_trans, lt_of_le_of_lt, mul-le-mul}
use native.Mathlib.Omega.{arith}
use lib.Dec.{ltb, lit<, lit≤}
use lib.IntN.{ℤ, pos, neg_ℤ}
use borrow.Author.Tests.{ltb-true, lt-ltb, le-ltb}
use Rattle.decibel.specs.Ints.{up}
use Rattle.decibel.specs.Greatest.{clamp}
use Rattle.decibel.specs.Fine.{fine_log_at}
use Rattle.decibel.specs.Lookup.{Whole}
use Rattle.decibel.specs.Round.{nearest, by_mark}
use Rattle.decibel.proofs.Ints.{neg_is}
use Rattle.decibel.proofs.Round.{unmarked-nearest}
use Rattle.figures.specs.declared.Segment.{Segment}
use Rattle.figures.specs.Rules.{unscreened}
use Rattle.figures.specs.Bounds.{Below}
use Rattle.figures.specs.Private.{Exactly}
use Rattle.figures.proofs.Ranged.{Signed, Ranged}
use Rattle.figures.proofs.Signs.{read, natural_below, read_up, returned, exactly_read}
use Rattle.figures.proofs.Lies.{lies_within, lies_fence}
use Rattle.propagation.specs.Screen.{screen_fence}
use Rattle.propagation.specs.Ground.{ground_factor, grounded, ground_fence, path_fence, is_close, attenuation, ground_mark}
use Rattle.propagation.specs.Private.{PathTenths}
use Rattle.propagation.proofs.Ranges.{Ranges}
use Rattle.propagation.proofs.ScreenStep.{screen_lies}
use Rattle.propagation.proofs.GroundMark.{factor_most, far_tenths_are}

-- ---- as the code takes it

-- the factor, from the figures as they are read
module _ {s : Segment} (g : Ranged s) {o : ℕ} (e : o ≡ up (read s.soft)) where
  soft_read : o ≡ up s.soft
  soft_read = read_up (lit< tt) g.soft e

  module _ {n c : ℕ} (f : n ≡ up (read s.mean)) (i : c ≡ clamp 100 600 n) where
    pub factor_is : (600 * o * (600 - c) ≡ ground_factor s) × (600 * o * (600 - c) ≤ 3000000)
    unfolding ground_factor
    factor_is =
        let q = ap₂ (λ (x y : ℕ). 600 * x * (600 - y)) soft_read (i ∙ ap (clamp 100 600) (read_up (lit< tt) g.mean f)) in
        (q, subst (λ (x : ℕ). x ≤ 3000000) (sym q) (factor_most g))

module _ {s : Segment} (g : Ranged s) {n w : ℕ} (e : n ≡ up (read s.distance)) (a : Whole 100000000 (fine_log_at (4 * n)) w) where
  whole_is : w ≡ fine_log_at (4 * up s.distance)
  whole_is = a.is ∙ ap (λ (x : ℕ). fine_log_at (4 * x)) (read_up (lit< tt) g.distance e)

  module _ {k x : ℕ} (i : x ≡ w - 40000000) (f : (k ≡ ground_factor s) × (k ≤ 3000000)) where
    part_most : x * k ≤ 180000000000000
    part_most = let l : x ≤ 60000000 = omega (arith, a.small) in mul-le-mul l f.1

    pub attenuation_is : Whole 20000000 (attenuation s) (x * k / 10000000)
    unfolding attenuation
    attenuation_is =
        record {
          is = ap₂ (λ (y z : ℕ). y * z / 10000000) (i ∙ ap (λ (y : ℕ). y - 40000000) whole_is) f.0;
          small = omega (arith, part_most);
        }

-- the mark and the fence in each of the three cases
module _ (s : Segment) where
  near_path : unscreened s ≡ true → up s.distance ≤ 2500 → (ground_mark s ≡ false) × (path_fence s ≡ pos 0)
  unfolding ground_mark path_fence grounded
  near_path e h = rw (e, le-ltb 2500 (up s.distance) h) (refl, refl)

  far_path : unscreened s ≡ true → 2500 < up s.distance → (ground_mark s ≡ is_close (attenuation s)) × (path_fence s ≡ ground_fence s)
  unfolding ground_mark path_fence grounded
  far_path e h = rw (e, lt-ltb 2500 (up s.distance) h) (refl, refl)

  screened_path : unscreened s ≡ false → (ground_mark s ≡ false) × (path_fence s ≡ screen_fence s)
  unfolding ground_mark path_fence grounded
  screened_path e = rw e (refl, refl)

pub path_near : {s : Segment} {n : ℕ} → Ranged s → unscreened s ≡ true → n ≡ up (read s.distance) → n ≤ 2500 → PathTenths s (record { tenths = pos 0; close = false })
unfolding by_mark nearest
path_near {s} g e f h =
    let p = near_path s e (omega (arith, read_up (lit< tt) g.distance f)) in
    record { is = sym (ap₂ by_mark p.0 p.1); mark = sym p.0; small = natural_below (lit< tt) }

pub path_far : {s : Segment} {n a : ℕ} {r : ℤ} {b : Bool} → Ranged s → unscreened s ≡ true → n ≡ up (read s.distance) → 2500 < n → Whole 20000000 (attenuation s) a → r ≡ neg_ℤ (pos ((a + 48499) / 100000)) → b ≡ is_close a → PathTenths s (record { tenths = read r; close = b })
path_far {s} {a = a} g e f h w i j =
    let l : 2500 < up s.distance = omega (arith, read_up (lit< tt) g.distance f) in
    let p = far_path s e l in
    let q = (a + 48499) / 100000 in
    let b : Below 1000 (neg_ℤ (pos q)) = record { most = omega (arith, neg_is (pos q)); least = omega (arith, neg_is (pos q), w.small) } in
    let x = returned (lit≤ tt) i (subst (Below 1000) (sym i) b) in
    record {
      is = x.is ∙ ap (λ (y : ℕ). neg_ℤ (pos ((y + 48499) / 100000))) w.is ∙ far_tenths_are g l ∙ sym (ap₂ by_mark p.0 p.1);
      mark = j ∙ ap is_close w.is ∙ sym p.0;
      small = x.small;
    }

pub path_screened : (s : Segment) {r : ℤ} → unscreened s ≡ false → Exactly (nearest (screen_fence s)) r → PathTenths s (record { tenths = read r; close = false })
path_screened s e a =
    let p = screened_path s e in
    let b = exactly_read a in
    record { is = b.is ∙ sym (unmarked-nearest (screen_fence s)) ∙ sym (ap₂ by_mark p.0 p.1); mark = sym p.0; small = b.small }

-- ---- how far it lies from zero

ground_lies : {s : Segment} → Ranged s → 2500 < up s.distance → Signed 7200000 0 (ground_fence s)
unfolding ground_fence
ground_lies {s} g l =
    lies_within (omega (arith, factor_most g)) (omega arith)
    (lies_fence 0 2 0 (ground_factor s) 2500 (up s.distance) (lit< tt) (lt_of_le_of_lt zero-le l) (le_trans g.distance.most (lit≤ tt)) (omega arith))

pub path_lies : (s : Segment) → Ranges s → Signed 23250000 3020000 (path_fence s)
unfolding path_fence grounded
path_lies s g = go (unscreened s) refl (ltb 2500 (up s.distance)) refl
  where
    go : (b : Bool) → unscreened s ≡ b → (f : Bool) → ltb 2500 (up s.distance) ≡ f → Signed 23250000 3020000 (cond b (cond (cond b f false) (ground_fence s) (pos 0)) (screen_fence s))
    go true e true k = lies_within (lit≤ tt) (lit≤ tt) (ground_lies g.ranged (ltb-true 2500 (up s.distance) k))
    go true e false k = record { most = lit≤ tt; least = lit≤ tt }
    go false e f k = screen_lies s (g.shadow e)
