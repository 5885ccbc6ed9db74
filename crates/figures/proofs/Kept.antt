-- What a segment or a train keeps that is not refused, as bounds on naturals.
-- Assumes nothing.
use mathlib.Core.Path.{◌≡◌, refl, sym, subst}
use mathlib.Core.Bool.{Bool, true, false, ◌&&◌, ◌||◌, false≢true}
use Prim.Native.Nat.{ℕ, suc, ◌+◌, ◌≤◌}
use native.Mathlib.Omega.{arith}
use lib.Dec.{leb}
use lib.IntN.{ℤ, pos, negsuc, neg_ℤ, ◌+ℤ◌}
use lib.Signed.{le_z}
use borrow.Author.Tests.{leb-true}
use Rattle.decibel.specs.Ints.{up, dn}
use Rattle.decibel.proofs.Ints.{up_pos}
use Rattle.figures.specs.declared.Segment.{Segment}
use Rattle.figures.specs.declared.Train.{Train}
use Rattle.figures.specs.declared.Refusal.{Refusal}
use Rattle.figures.specs.declared.Refusal.TheVariants.{Distance, Height, Ground, Angle, Screen, Row, Speed, Vehicles, Trains}
use Rattle.figures.specs.Refusal.{unless, first_refused, Check}
use Rattle.figures.specs.Rules.{least_distance, most_distance, lowest_window, highest_window, highest_mean, least_gap, lowest_top, highest_top, highest_wall, most_soft, least_view, widest_angle, most_chart, most_track, lowest_ballast, most_row, least_speed, most_speed, most_vehicles, most_trains, within, distance_kept, heights_kept, soft_kept, angles_kept, unscreened, unscreened_kept, screened_kept, screen_kept, ranges_then, range_check, readings_kept, row_kept, speed_kept, vehicles_kept, trains_kept, train_check}
use Rattle.figures.proofs.Ranged.{From, Signed, Ranged, ReadingsRanged, TrainRanged}
use Rattle.std.specs.Prelude.{Ok, Err}

-- ---- tests that hold

and_left : (a b : Bool) → (a && b) ≡ true → a ≡ true
and_left true b e = refl
and_left false b e = e

and_right : (a b : Bool) → (a && b) ≡ true → b ≡ true
and_right true b e = e
and_right false b e = absurd (false≢true e)

or_case : {A : Type 0} (a b : Bool) → (a || b) ≡ true → (a ≡ true → A) → (b ≡ true → A) → A
or_case true b e f g = f refl
or_case false b e f g = g e

from_within : (a b : ℕ) (z : ℤ) → within (pos a) (pos b) z ≡ true → From a b z
from_within a b (pos n) e = record { least = leb-true a n (and_left (leb a n) (leb n b) e); most = leb-true n b (and_right (leb a n) (leb n b) e); sign = refl }
from_within a b (negsuc n) e = absurd (false≢true (and_left false (le_z (negsuc n) (pos b)) e))

signed_within : (l b : ℕ) (z : ℤ) → within (negsuc l) (pos b) z ≡ true → Signed (suc l) b z
signed_within l b (pos n) e = record { most = leb-true n b e; least = omega arith }
signed_within l b (negsuc n) e = record { most = omega arith; least = omega (arith, leb-true n l (and_left (leb n l) true e)) }

-- ---- the chain of refusals

-- what is refused is not accepted
pub refused_not {ℓ} : {A : Type ℓ} {r : Refusal} → ◌≡◌ {A = Check} (Err r) (Ok tt) → A
refused_not e = let z : ◌≡◌ {A = ℕ} 0 1 = cc in let x : ⊥ = omega arith in absurd x

pub first_kept : (b : Bool) (r : Refusal) (rest : Check) → unless b r rest ≡ Ok tt → b ≡ true
unfolding unless
first_kept true r rest e = refl
first_kept false r rest e = refused_not e

pub rest_kept : (b : Bool) (r : Refusal) (rest : Check) → unless b r rest ≡ Ok tt → rest ≡ Ok tt
unfolding unless
rest_kept true r rest e = e
rest_kept false r rest e = refused_not e

-- a chain of lines before further ones is one chain
first_unless : (b : Bool) (r : Refusal) (x rest : Check) → first_refused (unless b r x) rest ≡ unless b r (first_refused x rest)
unfolding unless first_refused
first_unless true r x rest = refl
first_unless false r x rest = refl

pub ranges_first : (s : Segment) (later : Check) → ranges_then s later ≡ first_refused (range_check s) later
unfolding ranges_then range_check first_refused
ranges_first s later = simp first_unless

-- ---- the screen

-- the parts that differ with a screen
record Screened (s : Segment) : Type 0 where
  setback : (up s.setback ≤ up s.distance) × (dn s.setback ≡ 0)
  top : Signed lowest_top highest_top s.top
  chart : From 0 most_chart s.chart
  wall : From 0 highest_wall s.wall

without_screen : (s : Segment) → unscreened_kept s ≡ true → Screened s
unfolding unscreened_kept
without_screen s e =
    let r = from_within 0 0 s.setback (and_left (within (pos 0) (pos 0) s.setback) _ e) in
    let e₂ = and_right (within (pos 0) (pos 0) s.setback) _ e in
    let t = from_within 0 0 s.top (and_left (within (pos 0) (pos 0) s.top) _ e₂) in
    let e₃ = and_right (within (pos 0) (pos 0) s.top) _ e₂ in
    let c = from_within 0 0 s.chart (and_left (within (pos 0) (pos 0) s.chart) _ e₃) in
    let w = from_within 0 0 s.wall (and_right (within (pos 0) (pos 0) s.chart) _ e₃) in
    record {
      setback = (omega (arith, r.most), r.sign);
      top = record { most = omega (arith, t.most); least = omega (arith, t.sign) };
      chart = record { least = omega arith; most = omega (arith, c.most); sign = c.sign };
      wall = record { least = omega arith; most = omega (arith, w.most); sign = w.sign };
    }

setback_fits : (r d : ℤ) → le_z (pos least_gap) r ≡ true → le_z (r +ℤ pos least_gap) d ≡ true → (up r ≤ up d) × (dn r ≡ 0)
setback_fits (pos r) (pos d) e f = (omega (arith, leb-true (r + least_gap) d f), refl)
setback_fits (pos r) (negsuc d) e f = absurd (false≢true f)
setback_fits (negsuc r) d e f = absurd (false≢true e)

with_screen : (s : Segment) (m : ℕ) → m ≤ most_chart → screened_kept s (pos m) ≡ true → Screened s
unfolding screened_kept
with_screen s m l e =
    let stands = le_z (pos least_gap) s.setback && le_z (s.setback +ℤ pos least_gap) s.distance in
    let a = and_left stands _ e in
    let e₂ = and_right stands _ e in
    let topped = within (neg_ℤ (pos lowest_top)) (pos highest_top) s.top in
    let e₃ = and_right topped _ e₂ in
    let charted = within (pos 0) (pos m) s.chart in
    let e₄ = and_right charted _ e₃ in
    let c = from_within 0 m s.chart (and_left charted _ e₃) in
    record {
      setback = setback_fits s.setback s.distance (and_left (le_z (pos least_gap) s.setback) _ a) (and_right (le_z (pos least_gap) s.setback) _ a);
      top = signed_within 1999 highest_top s.top (and_left topped _ e₂);
      chart = record { least = omega arith; most = omega (arith, c.most); sign = c.sign };
      wall = from_within 0 highest_wall s.wall (and_left (within (pos 0) (pos highest_wall) s.wall) _ e₄);
    }

screened : (s : Segment) → screen_kept s ≡ true → Screened s
unfolding screen_kept
screened s e =
    or_case (unscreened s && unscreened_kept s) _ e (λ k. without_screen s (and_right (unscreened s) (unscreened_kept s) k))
    (λ k. or_case (within (pos 1) (pos 1) s.screen && screened_kept s (pos 0)) _ k
    (λ j. with_screen s 0 (omega arith) (and_right (within (pos 1) (pos 1) s.screen) _ j))
    (λ j. with_screen s most_chart (omega arith) (and_right (within (pos 2) (pos 2) s.screen) _ j)))

-- ---- a segment and a train that keep their lines

heights_in : (s : Segment) → heights_kept s ≡ true → Signed lowest_window highest_window s.height × From 0 highest_mean s.mean
unfolding heights_kept
heights_in s k =
    let window = within (neg_ℤ (pos lowest_window)) (pos highest_window) s.height in
    (signed_within 4999 highest_window s.height (and_left window _ k), from_within 0 highest_mean s.mean (and_right window _ k))

-- where a chain that begins with lines 1 to 5 ends in acceptance
pub ranged : (s : Segment) (later : Check) → ranges_then s later ≡ Ok tt → Ranged s × (later ≡ Ok tt)
unfolding ranges_then distance_kept soft_kept angles_kept
ranged s later e1 =
    let e2 = rest_kept (distance_kept s) Distance _ e1 in
    let e3 = rest_kept (heights_kept s) Height _ e2 in
    let e4 = rest_kept (soft_kept s) Ground _ e3 in
    let e5 = rest_kept (angles_kept s) Angle _ e4 in
    let h = heights_in s (first_kept (heights_kept s) Height _ e2) in
    let angles = first_kept (angles_kept s) Angle _ e4 in
    let v = from_within least_view widest_angle s.view (and_left (within (pos least_view) (pos widest_angle) s.view) _ angles) in
    let p = screened s (first_kept (screen_kept s) Screen _ e5) in (
      record {
        distance = from_within least_distance most_distance s.distance (first_kept (distance_kept s) Distance _ e1);
        height = h.0;
        mean = h.1;
        soft = from_within 0 most_soft s.soft (first_kept (soft_kept s) Ground _ e3);
        view = v;
        doubled = from_within (up s.view) widest_angle s.doubled (subst (λ (z : ℤ). within z (pos widest_angle) s.doubled ≡ true) (sym (up_pos s.view v.sign)) (and_right (within (pos least_view) (pos widest_angle) s.view) _ angles));
        setback = record { least = omega arith; most = p.setback.0; sign = p.setback.1 };
        top = p.top;
        chart = p.chart;
        wall = p.wall;
      },
      rest_kept (screen_kept s) Screen _ e5,
    )

pub readings_ranged : (s : Segment) → dn s.view ≡ 0 → readings_kept s ≡ true → ReadingsRanged s
unfolding readings_kept
readings_ranged s sign k =
    let tracked = within (pos 0) (pos most_track) s.track in
    let r2 = and_right tracked _ k in
    let ballasted = within (neg_ℤ (pos lowest_ballast)) (pos 0) s.ballast in
    let r3 = and_right ballasted _ r2 in
    record {
      track = from_within 0 most_track s.track (and_left tracked _ k);
      ballast = signed_within 29 0 s.ballast (and_left ballasted _ r2);
      facade = from_within 0 1 s.facade (and_left (within (pos 0) (pos 1) s.facade) _ r3);
      opposite = from_within 0 (up s.view) s.opposite (subst (λ (z : ℤ). within (pos 0) z s.opposite ≡ true) (sym (up_pos s.view sign)) (and_right (within (pos 0) (pos 1) s.facade) _ r3));
    }

pub train_ranged : (t : Train) → train_check t ≡ Ok tt → TrainRanged t
unfolding train_check row_kept speed_kept vehicles_kept trains_kept
train_ranged t e1 =
    let e2 = rest_kept (row_kept t) Row _ e1 in
    let e3 = rest_kept (speed_kept t) Speed _ e2 in
    let e4 = rest_kept (vehicles_kept t) Vehicles _ e3 in
    let k4 = first_kept (trains_kept t) Trains _ e4 in
    record {
      row = from_within 1 most_row t.row (first_kept (row_kept t) Row _ e1);
      speed = from_within least_speed most_speed t.speed (first_kept (speed_kept t) Speed _ e2);
      vehicles = from_within 1 most_vehicles t.vehicles (first_kept (vehicles_kept t) Vehicles _ e3);
      day = from_within 0 most_trains t.day (and_left (within (pos 0) (pos most_trains) t.day) _ k4);
      night = from_within 0 most_trains t.night (and_right (within (pos 0) (pos most_trains) t.day) _ k4);
    }
