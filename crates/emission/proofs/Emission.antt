-- A train's parts and their sum: as the code makes them, how far the sum lies from its fence and from zero.
-- Assumes nothing.
use mathlib.Core.Path.{◌≡◌, refl, sym, ◌∙◌, ap, subst}
use mathlib.Core.Bool.{true, false}
use Prim.Native.Nat.{◌≤◌, ◌<◌}
use native.Mathlib.Omega.{arith}
use lib.Dec.{lit<, lit≤}
use lib.IntN.{ℤ, pos, ◌+ℤ◌}
use lib.Signed.{◌≤ℤ◌}
use mir.Syntax.{w32}
use mir.Val.{SFits}
use Rattle.decibel.specs.Ints.{up}
use Rattle.decibel.specs.Round.{nearest}
use Rattle.decibel.specs.declared.Level.{Level}
use Rattle.decibel.specs.declared.Level.TheVariants.{Silent, Figure}
use Rattle.decibel.proofs.Ints.{add_is, le_is, is_le}
use Rattle.decibel.proofs.Round.{Near, near_nearest, near_exact, near_add}
use Rattle.figures.specs.declared.Train.{Train}
use Rattle.figures.specs.declared.Period.{Period}
use Rattle.figures.specs.declared.Period.TheVariants.{Day, Night}
use Rattle.figures.specs.declared.Refusal.{Refusal}
use Rattle.figures.specs.Periods.{in_period}
use Rattle.figures.specs.Rules.{train_check}
use Rattle.figures.specs.Bounds.{Below}
use Rattle.figures.specs.Private.{Exactly}
use Rattle.figures.proofs.Ranged.{Signed, TrainRanged}
use Rattle.figures.proofs.Signs.{read, below_more, natural_below, Sum, summand, added, summed, exactly_read}
use Rattle.figures.proofs.Lies.{lies_add, lies_within, lies_micro}
use Rattle.emission.specs.declared.TrainBreakdown.{TrainBreakdown}
use Rattle.emission.specs.Rolling.{rolling_tenths}
use Rattle.emission.specs.Speed.{speed_fence}
use Rattle.emission.specs.Vehicles.{vehicles_fence}
use Rattle.emission.specs.Trains.{trains_in, sounds, trains_fence, trains_level}
use Rattle.emission.specs.Emission.{raised, train_parts_of, no_train_parts, train_breakdown_of, emission_of, train_fence}
use Rattle.emission.specs.Results.{SmallLevel, TrainParted, Emits}
use Rattle.emission.specs.Private.{Runs}
use Rattle.emission.proofs.RollingFigures.{rolling_lies}
use Rattle.emission.proofs.SpeedStep.{speed_lies, speed_rises}
use Rattle.emission.proofs.VehiclesStep.{vehicles_lies}
use Rattle.emission.proofs.TrainsStep.{trains_lies}
use Rattle.std.specs.Prelude.{Ok, Err}

-- ---- the parts

abbrev made : (speed vehicles rolling : ℤ) → (day night : Level) → TrainBreakdown
made a b c d n = record { speed = a; vehicles = b; rolling = c; trains = record { day = d; night = n } }

pub parts_are : (t : Train) {a b c : ℤ} {d n : Level} → Exactly (nearest (speed_fence t)) a → Exactly (nearest (vehicles_fence t)) b → Exactly (rolling_tenths t) c → Runs (trains_level Day t) d → Runs (trains_level Night t) n → TrainParted (train_parts_of t) (made (read a) (read b) (read c) d n)
unfolding train_parts_of
parts_are t a b c d n =
    let x = exactly_read a in
    let y = exactly_read b in
    let z = exactly_read c in
    record {
      is = rw (x.is, y.is, z.is, d.is, n.is) refl;
      speed = x.small;
      vehicles = y.small;
      rolling = z.small;
      day = d.small;
      night = n.small;
    }

module _ (t : Train) where
  pub accepted_breakdown : train_check t ≡ Ok tt → train_parts_of t ≡ train_breakdown_of t
  unfolding train_breakdown_of
  accepted_breakdown e = sym (rw e refl)

  pub accepted_parts : {b : TrainBreakdown} → train_check t ≡ Ok tt → TrainParted (train_parts_of t) b → TrainParted (train_breakdown_of t) b
  accepted_parts {b} e p = subst (λ (v : TrainBreakdown). TrainParted v b) (accepted_breakdown e) p

  pub refused_breakdown : {k : Refusal} → train_check t ≡ Err k → no_train_parts ≡ train_breakdown_of t
  unfolding train_breakdown_of
  refused_breakdown e = sym (rw e refl)

  pub refused_parts : {k : Refusal} → train_check t ≡ Err k → TrainParted (train_breakdown_of t) (made (pos 0) (pos 0) (pos 0) Silent Silent)
  unfolding no_train_parts SmallLevel
  refused_parts e =
      let zero : Below 2000 (pos 0) = natural_below (lit< tt) in
      record { is = refused_breakdown e; speed = zero; vehicles = zero; rolling = zero; day = tt; night = tt }

-- ---- their sum

pub silent_stays : (d : ℤ) {l : Level} → l ≡ Silent → Emits (raised d l) Silent
unfolding raised SmallLevel
silent_stays d e = record { is = sym (rw e refl); small = tt }

module _ {d x : ℤ} {l : Level} (e : l ≡ Figure x) (a : Below 8000 d) (b : SmallLevel 2000 l) where
  figure_below : Below 2000 x
  unfolding SmallLevel
  figure_below = rw e at b

  pub raise_fits : SFits w32 (read d +ℤ read x)
  raise_fits = summand a figure_below (lit≤ tt)

  pub figure_rises : Emits (raised d l) (Figure (read (read d +ℤ read x)))
  unfolding raised SmallLevel
  figure_rises = let s = summed a figure_below (lit≤ tt) in record { is = ap Figure s.is ∙ sym (rw e refl); small = below_more (lit≤ tt) s.small }

-- what does not depend on the period
module _ (b : TrainBreakdown) {v : TrainBreakdown} (p : TrainParted v b) where
  abbrev pub pair : ℤ
  pair = read b.vehicles +ℤ read b.rolling

  vehicles_sum : Sum 4000 b.vehicles b.rolling pair
  vehicles_sum = added p.vehicles p.rolling (lit≤ tt)

  abbrev pub base : ℤ
  base = read (read b.speed +ℤ read pair)

  base_sum : Sum 6000 b.speed pair base
  base_sum = summed {x = b.speed} {y = pair} p.speed vehicles_sum.small (lit≤ tt)

  pub base_below : Below 8000 base
  base_below = below_more (lit≤ tt) base_sum.small

  base_is : base ≡ b.speed +ℤ (b.vehicles +ℤ b.rolling)
  base_is = base_sum.is ∙ ap (λ (z : ℤ). b.speed +ℤ z) vehicles_sum.is

  -- as it is emitted in a period
  pub emitted : (q : Period) (t : Train) {r : Level} → v ≡ train_breakdown_of t → Emits (raised base (in_period q b.trains)) r → Emits (emission_of q t) r
  unfolding emission_of
  emitted q t {r} e x =
      let same : b ≡ train_breakdown_of t = p.is ∙ e in
      record { is = x.is ∙ ap (λ (z : ℤ). raised z (in_period q b.trains)) base_is ∙ ap (λ (d : TrainBreakdown). raised (d.speed +ℤ (d.vehicles +ℤ d.rolling)) (in_period q d.trains)) same; small = x.small }

-- ---- near its fence

-- the sum with each step at its nearest tenth, where the train runs
pub train_tenths : Period → Train → ℤ
train_tenths p t = nearest (speed_fence t) +ℤ (nearest (vehicles_fence t) +ℤ rolling_tenths t) +ℤ nearest (trains_fence p t)

-- three steps are rounded
pub near_train : (p : Period) (t : Train) → Near 149997 150000 (train_tenths p t) (train_fence p t)
unfolding train_tenths train_fence
near_train p t = near_add (near_add (near_nearest (speed_fence t)) (near_add (near_nearest (vehicles_fence t)) (near_exact (rolling_tenths t)))) (near_nearest (trains_fence p t))

pub train_lies : (p : Period) (t : Train) → TrainRanged t → 0 < trains_in p t → Signed 48100000 129200000 (train_fence p t)
unfolding train_fence
train_lies p t g l = lies_within (lit≤ tt) (lit≤ tt) (lies_add (lies_add (speed_lies t g) (lies_add (vehicles_lies t g) (lies_micro (rolling_lies t g)))) (trains_lies p t g l))

-- ---- what is emitted: silent, or that sum

trains_in_period : (p : Period) (t : Train) → in_period p (train_parts_of t).trains ≡ trains_level p t
unfolding in_period train_parts_of
trains_in_period Day t = refl
trains_in_period Night t = refl

emission_by : (p : Period) (t : Train) → train_check t ≡ Ok tt → raised (nearest (speed_fence t) +ℤ (nearest (vehicles_fence t) +ℤ rolling_tenths t)) (trains_level p t) ≡ emission_of p t
unfolding emission_of train_parts_of
emission_by p t e = sym (rw (sym (accepted_breakdown t e)) (ap (raised (nearest (speed_fence t) +ℤ (nearest (vehicles_fence t) +ℤ rolling_tenths t))) (trains_in_period p t)))

pub emits_figure : (p : Period) (t : Train) → train_check t ≡ Ok tt → sounds p t ≡ true → emission_of p t ≡ Figure (train_tenths p t)
unfolding train_tenths raised trains_level
emits_figure p t e s = sym (emission_by p t e) ∙ rw s refl

pub emits_none : (p : Period) (t : Train) → train_check t ≡ Ok tt → sounds p t ≡ false → emission_of p t ≡ Silent
unfolding raised trains_level
emits_none p t e s = sym (emission_by p t e) ∙ rw s refl

pub refused_silent : (p : Period) (t : Train) {k : Refusal} → train_check t ≡ Err k → emission_of p t ≡ Silent
unfolding emission_of no_train_parts raised in_period
refused_silent p t e = rw (sym (refused_breakdown t e)) (silent p)
  where
    silent : (q : Period) → raised (pos 0 +ℤ (pos 0 +ℤ pos 0)) (in_period q (record { day = Silent; night = Silent })) ≡ Silent
    silent Day = refl
    silent Night = refl

-- ---- a faster train

-- that is else alike emits no less where it runs
pub faster_louder : (p : Period) (t u : Train) → up t.speed ≤ up u.speed → vehicles_fence t ≡ vehicles_fence u → rolling_tenths t ≡ rolling_tenths u → trains_fence p t ≡ trains_fence p u
    → train_tenths p t ≤ℤ train_tenths p u
unfolding train_tenths
faster_louder p t u h vehicles rolling trains =
    let a = nearest (speed_fence t) in
    let b = nearest (speed_fence u) in
    let m = nearest (vehicles_fence u) +ℤ rolling_tenths u in
    let q = nearest (trains_fence p u) in
    rw (vehicles, rolling, trains) (is_le (a +ℤ m +ℤ q) (b +ℤ m +ℤ q) (omega (arith, le_is a b (speed_rises t u h), add_is a m, add_is b m, add_is (a +ℤ m) q, add_is (b +ℤ m) q)))
