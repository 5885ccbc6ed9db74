-- The trains step: as the code takes it, its fence, how far it lies from zero; silent where no train runs.
-- Assumes nothing.
use mathlib.Core.Path.{◌≡◌, refl, sym, ◌∙◌, ap}
use mathlib.Core.Bool.{true}
use Prim.Native.Nat.{ℕ, ◌*◌, ◌≤◌, ◌<◌}
use native.Mathlib.Omega.{arith}
use lib.Dec.{lit<, lit≤}
use lib.IntN.{ℤ, pos, neg_ℤ, ◌+ℤ◌, ◌-ℤ◌}
use mir.Syntax.{w32}
use mir.Val.{SFits}
use borrow.Author.Tests.{lt-ltb, ltb-true}
use Rattle.decibel.specs.Ints.{up, dn}
use Rattle.decibel.specs.Log.{AtLeast, fence}
use Rattle.decibel.specs.Lookup.{ten_log, fence_at, lowest, highest, tenths_at, Tenth}
use Rattle.decibel.specs.Round.{micro, nearest, IsFence}
use Rattle.decibel.specs.declared.Level.TheVariants.{Silent, Figure}
use Rattle.decibel.proofs.Ints.{add_is, neg_is, from_parts}
use Rattle.decibel.proofs.Round.{micro_is, nearest_plus}
use Rattle.decibel.proofs.Exact.{fence_is}
use Rattle.figures.specs.declared.Train.{Train}
use Rattle.figures.specs.declared.Period.{Period}
use Rattle.figures.specs.declared.Period.TheVariants.{Day, Night}
use Rattle.figures.specs.Rules.{most_trains}
use Rattle.figures.specs.Private.{Exactly}
use Rattle.figures.proofs.Ranged.{Signed, TrainRanged}
use Rattle.figures.proofs.Signs.{read, below_more, below_back, natural_below, less, less_fits, exactly_read}
use Rattle.figures.proofs.Tenths.{tenth_below, tenths_of_lem}
use Rattle.figures.proofs.Lies.{lies_within, lies_less, lies_fence, fence_less}
use Rattle.emission.specs.Trains.{trains_in, sounds, hours_tenths, trains_fence, trains_level}
use Rattle.emission.specs.Results.{SmallLevel}
use Rattle.emission.specs.Private.{Runs}

trains_most : (p : Period) (t : Train) → TrainRanged t → trains_in p t ≤ most_trains
unfolding trains_in
trains_most Day t g = g.day.most
trains_most Night t g = g.night.most

hours_lie : (p : Period) → (433 ≤ hours_tenths p) × (hours_tenths p ≤ 481)
unfolding hours_tenths
hours_lie Day = (lit≤ tt, lit≤ tt)
hours_lie Night = (lit≤ tt, lit≤ tt)

pub runs : (p : Period) (t : Train) → sounds p t ≡ true → 0 < trains_in p t
unfolding sounds
runs p t e = ltb-true 0 (trains_in p t) e

nearest_less : (b : ℕ) (f : ℤ) → nearest (f -ℤ pos (100000 * b)) ≡ nearest f -ℤ pos b
nearest_less b f =
    let g = f -ℤ pos (100000 * b) in
    let n = nearest g in
    let e : micro (pos b) +ℤ g ≡ f = from_parts (micro (pos b) +ℤ g) f (omega (arith, add_is (micro (pos b)) g, micro_is (pos b), add_is f (neg_ℤ (pos (100000 * b))), neg_is (pos (100000 * b)))) in
    let h : pos b +ℤ n ≡ nearest f = sym (nearest_plus (pos b) g) ∙ ap nearest e in
    from_parts n (nearest f -ℤ pos b) (omega (arith, ap up h, ap dn h, add_is (pos b) n, add_is (nearest f) (neg_ℤ (pos b)), neg_is (pos b)))

module _ (p : Period) (t : Train) (g : TrainRanged t) (l : 0 < trains_in p t) where
  module _ {n : ℕ} {x y : ℤ} (e : n ≡ trains_in p t) (a : Tenth (tenths_at ten_log n) x) (h : y ≡ pos (hours_tenths p)) where
    hours_read : read y ≡ pos (hours_tenths p)
    hours_read = rw h (below_back (natural_below (omega (arith, hours_lie p))))

    pub trains_fits : SFits w32 (read x -ℤ read y)
    trains_fits = rw hours_read (less_fits (hours_tenths p) (tenth_below a) (omega (arith, hours_lie p)))

    pub trains_is : Exactly (nearest (trains_fence p t)) (read (read x -ℤ read y))
    unfolding trains_fence fence_at lowest highest
    trains_is =
        let log = tenths_of_lem ten_log n (omega arith) (omega (arith, trains_most p t g)) a in
        let s = less (hours_tenths p) (tenth_below a) (omega (arith, hours_lie p)) in
        let f = ap (λ (k : ℕ). nearest (fence 0 10000000 k 1)) e in
        rw hours_read
        (record {
          is = s.is ∙ ap (λ (z : ℤ). z -ℤ pos (hours_tenths p)) (log.is ∙ f) ∙ sym (nearest_less (hours_tenths p) (fence 0 10000000 (trains_in p t) 1));
          small = below_more (omega (arith, hours_lie p)) s.small;
        })

  pub trains_lies : Signed 48100000 0 (trains_fence p t)
  unfolding trains_fence
  trains_lies =
      lies_within (omega (arith, hours_lie p)) (omega (arith, hours_lie p))
      (lies_less (fence 0 10000000 (trains_in p t) 1) (100000 * hours_tenths p) (lies_fence 0 0 4 10000000 (trains_in p t) 1 l (lit< tt) (omega arith) (omega (arith, trains_most p t g))))

pub trains-fence : (p : Period) (t : Train) → sounds p t ≡ true → IsFence (λ m. AtLeast 0 10000000 (trains_in p t) 1 (m +ℤ pos (100000 * hours_tenths p))) (trains_fence p t)
unfolding trains_fence
trains-fence p t e =
    let q = trains_in p t in
    fence_less (AtLeast 0 10000000 q 1) (fence 0 10000000 q 1) (100000 * hours_tenths p) (fence_is 0 10000000 q 1 (runs p t e) (lit< tt))

-- ---- by period

pub none_run : (p : Period) (t : Train) {n : ℕ} → n ≡ trains_in p t → n ≡ 0 → Runs (trains_level p t) Silent
unfolding trains_level sounds SmallLevel
none_run p t e z = record { is = rw (sym e, z) refl; small = tt }

pub some_run : (p : Period) (t : Train) {r : ℤ} → 0 < trains_in p t → Exactly (nearest (trains_fence p t)) r → Runs (trains_level p t) (Figure (read r))
unfolding trains_level sounds SmallLevel
some_run p t l x = let y = exactly_read x in record { is = ap Figure y.is ∙ sym (rw (lt-ltb 0 (trains_in p t) l) refl); small = y.small }
