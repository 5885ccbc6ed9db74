-- The starred readings hold, as one claim.
-- Assumes nothing.
use mathlib.Core.Path.{◌≡◌, refl, ◌∙◌, ap, ap₂}
use mathlib.Core.Bool.{Bool, true, false}
use Prim.Native.Nat.{ℕ, ◌+◌, ◌-◌, ◌*◌, ◌/◌, ◌^◌, max}
use native.Mathlib.Nat.{le_refl, mul-one}
use native.Mathlib.Omega.{arith}
use lib.Dec.{T, ltb, ltb→lt, lit<, lit≤}
use borrow.Author.Tests.{lt-ltb}
use lib.IntN.{ℤ, pos, negsuc, neg_ℤ, sub_ℕ, ◌+ℤ◌, ◌-ℤ◌}
use Rattle.decibel.specs.Ints.{up, dn}
use Rattle.decibel.specs.Greatest.{clamp}
use Rattle.decibel.specs.Log.{AtLeast, AtMost, fence}
use Rattle.decibel.specs.Round.{micro, tie, nearest, by_mark, MarkAllowed, whole_decibels, meets}
use Rattle.decibel.proofs.Tests.{reaches}
use Rattle.decibel.proofs.Ints.{add_is, neg_is, from_parts, ints}
use Rattle.decibel.proofs.Powers.{mul-pow}
use Rattle.decibel.proofs.Log.{Reaches}
use Rattle.decibel.proofs.Tenths.{reading}
use Rattle.decibel.proofs.Exact.{reaches_at_least, at_least_at_most, at_least_fence}
use Rattle.decibel.proofs.Fences.{fence_low, fence_high, fence_shift}
use Rattle.decibel.proofs.Round.{micro_is, tie_is, marked_louder}
use Rattle.figures.specs.declared.Segment.{Segment}
use Rattle.figures.specs.declared.Train.{Train}
use Rattle.figures.specs.declared.Period.{Period}
use Rattle.figures.specs.Geometry.{squared, slant, slant_square}
use Rattle.figures.specs.Rules.{within, unscreened}
use Rattle.propagation.specs.Distance.{distance_fence}
use Rattle.propagation.specs.Air.{root_up, air_fence}
use Rattle.propagation.specs.Opposite.{opposite_fence}
use Rattle.propagation.specs.Ground.{ground_factor, grounded, ground_fence, path_fence, GroundMarkBy, GroundMark}
use Rattle.propagation.proofs.AirStep.{root_up_square}
use Rattle.emission.specs.Speed.{least_counted, counted_speed, speed_fence}
use Rattle.emission.specs.Vehicles.{vehicles_fence}
use Rattle.emission.specs.Trains.{trains_in, hours_tenths, trains_fence}
use Rattle.request.specs.Levels.{limit_of, met_by}
use Rattle.request.specs.Readings.{Readings}

-- ---- speed, vehicles and trains: two tests of powers each

speed_at : (t : Train) (v : ℕ) → t.speed ≡ pos v → nearest (speed_fence t) ≡ nearest (fence 31200000 20000000 (max least_counted v) 1)
unfolding speed_fence counted_speed
speed_at t v e = ap (λ (x : ℤ). nearest (fence 31200000 20000000 (max least_counted (up x)) 1)) e

vehicles_at : (t : Train) (n : ℕ) → t.vehicles ≡ pos n → nearest (vehicles_fence t) ≡ nearest (fence 0 10000000 n 1)
unfolding vehicles_fence
vehicles_at t n e = ap (λ (x : ℤ). nearest (fence 0 10000000 (up x) 1)) e

trains_at : (p : Period) (t : Train) (q : ℕ) → trains_in p t ≡ q → trains_fence p t +ℤ micro (pos (hours_tenths p)) ≡ fence 0 10000000 q 1
unfolding trains_fence
trains_at p t q e =
    let f = fence 0 10000000 (trains_in p t) 1 in
    let h = 100000 * hours_tenths p in
    from_parts (f -ℤ pos h +ℤ micro (pos (hours_tenths p))) f (omega (arith, add_is (f -ℤ pos h) (micro (pos (hours_tenths p))), micro_is (pos (hours_tenths p)), add_is f (neg_ℤ (pos h)), neg_is (pos h)))
    ∙ ap (λ (x : ℕ). fence 0 10000000 x 1) e

-- ---- distance and air

module _ (s : Segment) (d : ℕ) (ed : s.distance ≡ pos d) (eh : s.height ≡ pos 0) where
  level_square : slant_square s ≡ d * d
  unfolding slant_square slant squared
  level_square = ap₂ slant ed eh ∙ plain
    where
      plain : slant (pos d) (pos 0) ≡ d * d
      plain = omega arith

  distance_at : nearest (distance_fence s) ≡ nearest (fence 0 5000000 6250000 (d * d))
  unfolding distance_fence
  distance_at = ap (λ (x : ℕ). nearest (fence 0 5000000 6250000 x)) level_square

  -- 80 microdecibels a centimetre
  air_at : nearest (air_fence s) ≡ nearest (sub_ℕ 200000 (80 * d))
  unfolding air_fence
  air_at =
      let e : 6400 * slant_square s ≡ 80 * d * (80 * d) = omega (arith, level_square) in
      ap (λ (x : ℕ). nearest (sub_ℕ 200000 x)) (ap root_up e ∙ root_up_square (80 * d))

-- ---- opposite facades

opposite_at : (s : Segment) (o v : ℕ) → s.opposite ≡ pos o → s.view ≡ pos v → nearest (opposite_fence s) ≡ nearest (pos (1500000 * o / v))
unfolding opposite_fence
opposite_at s o v eo ev = ap₂ (λ (x y : ℤ). nearest (pos (1500000 * up x / up y))) eo ev

-- ---- ground

module _ (s : Segment) (d i h : ℕ) (e : s.screen ≡ pos 0) (ed : s.distance ≡ pos d) (ei : s.soft ≡ pos i) (eh : s.mean ≡ pos h) where
  grounded_at : T (ltb 2500 d) → grounded s ≡ true
  unfolding grounded unscreened
  grounded_at l = rw (e, ed, lt-ltb 2500 d (ltb→lt 2500 d l)) refl

  factor_at : ground_factor s ≡ 600 * i * (600 - clamp 100 600 h)
  unfolding ground_factor
  factor_at = ap₂ (λ (x y : ℤ). 600 * up x * (600 - clamp 100 600 (up y))) ei eh

  fence_at_lem : ground_fence s ≡ fence 0 (600 * i * (600 - clamp 100 600 h)) 2500 d
  unfolding ground_fence
  fence_at_lem = ap₂ (λ (k : ℕ) (x : ℤ). fence 0 k 2500 (up x)) factor_at ed

  none_at : unscreened s ≡ true
  unfolding unscreened
  none_at = ap (within (pos 0) (pos 0)) e

  path_at : T (ltb 2500 d) → path_fence s ≡ fence 0 (600 * i * (600 - clamp 100 600 h)) 2500 d
  unfolding path_fence
  path_at l = rw (none_at, grounded_at l) fence_at_lem

  mark_at_lem : T (ltb 2500 d) → (mark : Bool) → GroundMark s mark → MarkAllowed (AtLeast 0 (600 * i * (600 - clamp 100 600 h)) 2500 d) (AtMost 0 (600 * i * (600 - clamp 100 600 h)) 2500 d) mark
  unfolding GroundMark GroundMarkBy
  mark_at_lem l mark g = rw (grounded_at l, factor_at, ed) at g

zero_by : (mark : Bool) → by_mark mark (pos 0) ≡ pos 0
unfolding by_mark nearest
zero_by true = refl
zero_by false = refl

-- a factor of nothing
nothing : fence 0 0 2500 10000 ≡ pos 0
nothing = from_parts (fence 0 0 2500 10000) (pos 0) (omega (arith, fence_low 0 1 0 2500 10000 (lit< tt) (lit< tt) (lit≤ tt), fence_high 0 0 0 2500 10000 (lit< tt) (lit< tt) (lit≤ tt)))

-- a tenth of the number takes off the whole factor
module _ (s : ℕ) where
  tenfold : fence 0 s 2500 (2500 * 10 ^ 1) +ℤ pos s ≡ pos 0
  tenfold =
      let f = fence 0 s 2500 (2500 * 10 ^ 1) in
      let g = fence 0 s 2500 2500 in
      let e : pos (1 * s) +ℤ f ≡ g = fence_shift 0 s 2500 2500 1 (lit< tt) (lit< tt) in
      from_parts (f +ℤ pos s) (pos 0)
      (omega (arith, ap up e, ap dn e, add_is (pos (1 * s)) f, add_is f (pos s), fence_low 0 0 s 2500 2500 (lit< tt) (lit< tt) (lit≤ tt), fence_high 0 0 s 2500 2500 (lit< tt) (lit< tt) (lit≤ tt)))

tenfold_reached : (n s : ℕ) → Reaches 0 s (n * 10) n s
unfolding Reaches
tenfold_reached n s = rw (mul-pow n 10 s, mul-one (n ^ s * 10 ^ s)) (le_refl (n ^ s * 10 ^ s))

-- d 25000, I 5, H 350: exactly -0.75 dB
flat : ℤ
flat = fence 0 750000 2500 25000

flat_is : (up flat ≡ 0) × (dn flat ≡ 750000)
unfolding flat
flat_is = let f = fence 0 750000 2500 25000 in let e = tenfold 750000 in parts f (ap up e) (ap dn e) (add_is f (pos 750000))
  where
    parts : (f : ℤ) → up (f +ℤ pos 750000) ≡ 0 → dn (f +ℤ pos 750000) ≡ 0 → up (f +ℤ pos 750000) + dn f + 0 ≡ up f + 750000 + dn (f +ℤ pos 750000) → (up f ≡ 0) × (dn f ≡ 750000)
    parts (pos n) p q r = omega arith
    parts (negsuc n) p q r = omega arith

tie_required : (mark : Bool) → MarkAllowed (AtLeast 0 750000 2500 25000) (AtMost 0 750000 2500 25000) mark → mark ≡ true
unfolding flat
tie_required mark a =
    let low = tie (negsuc 6) -ℤ pos 1000 in
    let high = tie (negsuc 6) +ℤ pos 1000 in
    a.required (negsuc 6)
    ((at_least_fence 0 750000 2500 25000 (lit< tt) (lit< tt) low).1 (omega (arith, ints, flat_is, tie_is (negsuc 6), add_is (tie (negsuc 6)) (neg_ℤ (pos 1000)))))
    (at_least_at_most 750000 2500 25000 high
    (reaches_at_least 0 750000 25000 2500 (neg_ℤ high) 0 750000 (omega (arith, tie_is (negsuc 6), add_is (tie (negsuc 6)) (pos 1000), neg_is high)) (tenfold_reached 2500 750000)))

louder : by_mark true (fence 0 750000 2500 25000) ≡ negsuc 6
unfolding flat
louder =
    let f = fence 0 750000 2500 25000 in
    let t = tie (negsuc 6) in
    marked_louder f (negsuc 6) (omega (arith, ints, flat_is, tie_is (negsuc 6), add_is t (neg_ℤ (pos 2000)))) (omega (arith, ints, flat_is, tie_is (negsuc 6), add_is t (pos 2000)))

ground_tie : (s : Segment) → s.screen ≡ pos 0 → s.distance ≡ pos 25000 → s.soft ≡ pos 5 → s.mean ≡ pos 350 → (mark : Bool) → GroundMark s mark → (mark ≡ true) × (by_mark mark (path_fence s) ≡ negsuc 6)
unfolding clamp
ground_tie s e d i h mark g =
    let m = tie_required mark (mark_at_lem s 25000 5 350 e d i h tt mark g) in
    (m, ap₂ by_mark m (path_at s 25000 5 350 e d i h tt) ∙ louder)

pub readings_hold : Readings
unfolding reaches nearest clamp met_by limit_of meets whole_decibels
readings_hold =
    record {
      speed_100 = λ t e. speed_at t 100 e ∙ reading 31200000 50000 400 0 0 100 1 712 799 801 tt tt tt refl refl refl tt tt;
      speed_150 = λ t e. speed_at t 150 e ∙ reading 31200000 50000 400 0 0 150 1 747 869 871 tt tt tt refl refl refl tt tt;
      vehicles_2 = λ t e. vehicles_at t 2 e ∙ reading 0 50000 200 0 0 2 1 30 59 61 tt tt tt refl refl refl tt tt;
      vehicles_10 = λ t e. vehicles_at t 10 e ∙ reading 0 50000 200 0 0 10 1 100 199 201 tt tt tt refl refl refl tt tt;
      distance_2500 = λ s e h. distance_at s 2500 e h ∙ reading 0 50000 100 2 1 6250000 6250000 1 1 3 tt tt tt refl refl refl tt tt;
      air_1875 = λ s e h. air_at s 1875 e h;
      air_1876 = λ s e h. air_at s 1876 e h;
      ground_10000 = λ s e d i h mark. ap (by_mark mark) (path_at s 10000 10 600 e d i h tt ∙ nothing) ∙ zero_by mark;
      ground_25000 = ground_tie;
      opposite_30 = λ s o v. opposite_at s 1 30 o v;
      opposite_31 = λ s o v. opposite_at s 1 31 o v;
      trains_13 = λ p t e. ap nearest (trains_at p t 13 e) ∙ reading 0 50000 200 0 0 13 1 111 221 223 tt tt tt refl refl refl tt tt;
      day_67_5_met = refl;
      day_67_4_not = refl;
    }
