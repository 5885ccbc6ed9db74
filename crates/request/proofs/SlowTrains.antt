-- Which speeds are refused, and that a slow train is heard as at 20 km/h.
-- Assumes nothing.
use mathlib.Core.Path.{◌≡◌, refl, sym, ◌∙◌, ap, ap₂, subst}
use mathlib.Core.Logic.{◌↔◌, inl, inr}
use mathlib.Core.Bool.{Bool, true, false, cond, ◌&&◌, and-false, false≢true}
use mathlib.Core.List.{List, [], ◌∷◌, ◌++◌, map, map-append}
use Prim.Native.Nat.{ℕ, suc, ◌-◌, ◌<◌}
use native.Mathlib.Omega.{arith}
use lib.Dec.{T}
use lib.IntN.{ℤ, pos, negsuc, ◌+ℤ◌}
use lib.ListN.{length, length-map}
use lib.Signed.{le_z, lt_z, le_z_yes, ◌≤ℤ◌, ◌<ℤ◌}
use Rattle.decibel.specs.Ints.{up}
use Rattle.decibel.specs.Log.{fence}
use Rattle.decibel.proofs.Ints.{ints}
use Rattle.energy.proofs.Order.{le_true, le_false, less, not_less}
use Rattle.figures.specs.declared.Segment.{Segment}
use Rattle.figures.specs.declared.Train.{Train}
use Rattle.figures.specs.declared.Period.{Period}
use Rattle.figures.specs.declared.Period.TheVariants.{Day, Night}
use Rattle.figures.specs.Refusal.{check_number, Check}
use Rattle.figures.specs.Rules.{least_speed, most_speed, row_kept, speed_kept, vehicles_kept, trains_kept, train_check, lowest_number, train_lines}
use Rattle.figures.proofs.Numbers.{train_number_lem}
use Rattle.propagation.specs.Propagation.{segment_breakdown_by, added_up, segment_fence}
use Rattle.emission.specs.Rolling.{rolling_tenths}
use Rattle.emission.specs.Speed.{least_counted, counted_speed, speed_fence}
use Rattle.emission.specs.Vehicles.{vehicles_fence}
use Rattle.emission.specs.Trains.{trains_in, sounds, trains_fence, trains_level}
use Rattle.emission.specs.Emission.{raised, train_parts_of, train_breakdown_of, emission_of, train_fence}
use Rattle.emission.proofs.SpeedStep.{slow_counted, typed_counted}
use Rattle.study.specs.declared.Entry.{Entry}
use Rattle.study.specs.Plan.{Plan, empty_plan, segment_at}
use Rattle.study.specs.Add.{Limits, ours, train_answer}
use Rattle.study.specs.Run.{Addition, segment, train, run, kept, extend, extend_all, accepted}
use Rattle.study.proofs.Runs.{run-accepted}
use Rattle.request.specs.Entry.{level_by, entry_fence}
use Rattle.request.specs.Levels.{Marks, mark_at, level_at, levels_of, heard_at, close_from, close_segments, result_by, ground_marks, own_marks}
use Rattle.request.specs.Accuracy.{fences_of, Bare}
use Rattle.request.specs.SlowTrains.{SpeedOut, is_slow, at_least_counted, as_counted, addition_as_counted, entry_as_counted, plan_as_counted, SlowTrains}
use Rattle.std.specs.Prelude.{Ok, Err}

-- ---- which speeds are refused

out_refused : (t : Train) → SpeedOut t → speed_kept t ≡ false
unfolding speed_kept
out_refused t (inl h) = rw (le_false (pos least_speed) t.speed h) refl
out_refused t (inr h) = rw (le_false t.speed (pos most_speed) h) (and-false (le_z (pos least_speed) t.speed))

refused_out : (t : Train) → speed_kept t ≡ false → SpeedOut t
unfolding speed_kept
refused_out t e = go (lt_z t.speed (pos least_speed)) refl (lt_z (pos most_speed) t.speed) refl
  where
    go : (a : Bool) → lt_z t.speed (pos least_speed) ≡ a → (b : Bool) → lt_z (pos most_speed) t.speed ≡ b → SpeedOut t
    go true p b q = inl (less t.speed (pos least_speed) p)
    go false p true q = inr (less (pos most_speed) t.speed q)
    go false p false q =
        absurd (false≢true (sym e ∙ ap₂ ◌&&◌ (le_true (pos least_speed) t.speed (not_less t.speed (pos least_speed) p)) (le_true t.speed (pos most_speed) (not_less (pos most_speed) t.speed q))))

nine : (t : Train) → row_kept t ≡ true → SpeedOut t → check_number (train_check t) ≡ 9
unfolding train_lines lowest_number
nine t row out = train_number_lem t ∙ rw (row, out_refused t out) refl

nine_only : (t : Train) → check_number (train_check t) ≡ 9 → (row_kept t ≡ true) × SpeedOut t
unfolding train_lines lowest_number
nine_only t e = let b = go (row_kept t) (speed_kept t) (vehicles_kept t) (trains_kept t) (sym (train_number_lem t) ∙ e) in (b.0, refused_out t b.1)
  where
    go : (row speed vehicles trains : Bool) → ◌≡◌ {A = ℕ} (cond row (cond speed (cond vehicles (cond trains 0 11) 10) 9) 8) 9 → (row ≡ true) × (speed ≡ false)
    go true true true true e = absurd (omega arith)
    go true true true false e = absurd (omega arith)
    go true true false trains e = absurd (omega arith)
    go true false vehicles trains e = (refl, refl)
    go false speed vehicles trains e = absurd (omega arith)

-- ---- a slow train

-- what holds of a slow train at 20 km/h holds of every train as it counts
by_slow : {A : Type 0} (f : Train → A) (t : Train) → (is_slow t ≡ true → f (at_least_counted t) ≡ f t) → f (as_counted t) ≡ f t
unfolding as_counted
by_slow {A} f t h = go (is_slow t) refl
  where
    go : (b : Bool) → is_slow t ≡ b → f (cond b (at_least_counted t) t) ≡ f t
    go true e = h e
    go false e = refl

-- from 1 to 19 km/h
slow_lies : (t : Train) → is_slow t ≡ true → (pos least_speed ≤ℤ t.speed) × (t.speed <ℤ pos least_counted)
unfolding is_slow
slow_lies t = go (le_z (pos least_speed) t.speed) refl (lt_z t.speed (pos least_counted)) refl
  where
    go : (a : Bool) → le_z (pos least_speed) t.speed ≡ a → (b : Bool) → lt_z t.speed (pos least_counted) ≡ b → (a && b) ≡ true → (pos least_speed ≤ℤ t.speed) × (t.speed <ℤ pos least_counted)
    go true p true q e = (le_z_yes (subst T (sym p) tt), less t.speed (pos least_counted) q)
    go true p false q e = absurd (false≢true e)
    go false p b q e = absurd (false≢true e)

slow_kept : (t : Train) → is_slow t ≡ true → speed_kept t ≡ true
unfolding speed_kept
slow_kept t e =
    let s = slow_lies t e in
    ap₂ ◌&&◌ (le_true (pos least_speed) t.speed s.0) (le_true t.speed (pos most_speed) (omega (arith, ints, s.1)))

kept_20 : (t : Train) → speed_kept (at_least_counted t) ≡ true
unfolding speed_kept
kept_20 t = refl

slow_check : (t : Train) → is_slow t ≡ true → train_check (at_least_counted t) ≡ train_check t
unfolding train_check row_kept vehicles_kept trains_kept
slow_check t e = rw (slow_kept t e, kept_20 t) refl

check_same : (t : Train) → train_check (as_counted t) ≡ train_check t
check_same t = by_slow train_check t (slow_check t)

up_below : (z : ℤ) → z <ℤ pos least_counted → up z < least_counted
up_below (pos n) h = omega (arith, ints)
up_below (negsuc n) h = omega arith

counts_20 : (t : Train) → is_slow t ≡ true → counted_speed t ≡ least_counted
counts_20 t e = sym (slow_counted t refl (up_below t.speed (slow_lies t e).1))

counts_typed : (t : Train) → pos least_counted ≤ℤ t.speed → pos (counted_speed t) ≡ t.speed
counts_typed t h = go t.speed refl h
  where
    go : (z : ℤ) → t.speed ≡ z → pos least_counted ≤ℤ z → pos (counted_speed t) ≡ z
    go (pos n) e l = ap pos (sym (typed_counted t (sym (ap up e)) (omega (arith, ints))))
    go (negsuc n) e l = absurd (omega (arith, ints))

counted_20 : (t : Train) → counted_speed (at_least_counted t) ≡ least_counted
unfolding counted_speed
counted_20 t = refl

slow_fence : (t : Train) → is_slow t ≡ true → speed_fence (at_least_counted t) ≡ speed_fence t
unfolding speed_fence
slow_fence t e = ap (λ (v : ℕ). fence 31200000 20000000 v 1) (counted_20 t ∙ sym (counts_20 t e))

parts_same : (t : Train) → train_parts_of (as_counted t) ≡ train_parts_of t
unfolding train_parts_of vehicles_fence rolling_tenths trains_level sounds trains_fence trains_in
parts_same t = by_slow train_parts_of t (λ e. rw (slow_fence t e) refl)

emission_same : (p : Period) (t : Train) → emission_of p (as_counted t) ≡ emission_of p t
unfolding emission_of train_breakdown_of
emission_same p t = rw (check_same t, parts_same t) refl

train_fence_same : (p : Period) (t : Train) → train_fence p (as_counted t) ≡ train_fence p t
unfolding train_fence vehicles_fence rolling_tenths trains_fence trains_in
train_fence_same Day t = by_slow (train_fence Day) t (λ e. rw (slow_fence t e) refl)
train_fence_same Night t = by_slow (train_fence Night) t (λ e. rw (slow_fence t e) refl)

sounds_same : (p : Period) (t : Train) → sounds p (as_counted t) ≡ sounds p t
unfolding sounds trains_in
sounds_same Day t = by_slow (sounds Day) t (λ e. refl)
sounds_same Night t = by_slow (sounds Night) t (λ e. refl)

-- ---- its entry

level_same : (p : Period) (s : Segment) (mark : Bool) (t : Train) → level_by p s mark (as_counted t) ≡ level_by p s mark t
unfolding level_by
level_same p s mark t = ap (raised (added_up (segment_breakdown_by s mark))) (emission_same p t)

fence_same : (p : Period) (s : Segment) (t : Train) → entry_fence p s (as_counted t) ≡ entry_fence p s t
unfolding entry_fence
fence_same p s t = ap (λ (z : ℤ). segment_fence s +ℤ z) (train_fence_same p t)

-- ---- what is added

kept_same : (c : Check) (old new : Plan) → kept c (plan_as_counted old) (plan_as_counted new) ≡ plan_as_counted (kept c old new)
unfolding kept
kept_same (Ok _) old new = refl
kept_same (Err r) old new = refl

answer_same : (l : Limits) (count : ℕ) (es : List Entry) (t : Train) → train_answer l count (length (map entry_as_counted es)) (as_counted t) ≡ train_answer l count (length es) t
unfolding train_answer
answer_same l count es t = rw (length-map es entry_as_counted, check_same t) refl

extend_same : (l : Limits) (p : Plan) (a : Addition) → extend l (plan_as_counted p) (addition_as_counted a) ≡ plan_as_counted (extend l p a)
unfolding extend addition_as_counted
extend_same l p (segment s) = kept_same _ p _
extend_same l p (train t) = rw (answer_same l (length p.segments) p.entries t, ← map-append entry_as_counted p.entries (last ∷ [])) (kept_same _ p _)
  where
    last : Entry
    last = record { segment = length p.segments - 1; train = t }

all_same : (l : Limits) (p : Plan) (additions : List Addition) → extend_all l (plan_as_counted p) (map addition_as_counted additions) ≡ plan_as_counted (extend_all l p additions)
unfolding extend_all
all_same l p [] = refl
all_same l p (a ∷ rest) = ap (λ (q : Plan). extend_all l q (map addition_as_counted rest)) (extend_same l p a) ∙ all_same l (extend l p a) rest

last_added : (l : Limits) (p : Plan) (xs : List Addition) (a : Addition) → extend_all l p (xs ++ (a ∷ [])) ≡ extend l (extend_all l p xs) a
unfolding extend_all
last_added l p [] a = refl
last_added l p (x ∷ xs) a = last_added l (extend l p x) xs a

train_held : (l : Limits) (p : Plan) (t : Train) → train_answer l (length p.segments) (length p.entries) t ≡ Ok tt
    → (extend l p (train t)).entries ≡ p.entries ++ (record { segment = length p.segments - 1; train = t } ∷ [])
unfolding extend kept
train_held l p t e = rw e refl

last_held : (additions : List Addition) (t : Train) → run ours (additions ++ (train t ∷ [])) ≡ extend ours (run ours additions) (train t)
unfolding accepted
last_held additions t = rw (run-accepted ours additions, run-accepted ours (additions ++ (train t ∷ []))) (last_added ours empty_plan additions (train t))

typed_same : (additions : List Addition) → run ours (map addition_as_counted additions) ≡ plan_as_counted (run ours additions)
unfolding accepted
typed_same additions = rw (run-accepted ours (map addition_as_counted additions), run-accepted ours additions) (all_same ours empty_plan additions)

-- ---- the study

levels_same : (p : Period) (plan : Plan) (m : Marks) → levels_of p (plan_as_counted plan) m ≡ levels_of p plan m
unfolding levels_of level_at
levels_same p plan m = each plan.entries
  where
    each : (es : List Entry) → map (level_at p (plan_as_counted plan) m) (map entry_as_counted es) ≡ map (level_at p plan m) es
    each [] = refl
    each (e ∷ es) = ap₂ ◌∷◌ (level_same p (segment_at plan e.segment) (mark_at m e.segment) e.train) (each es)

fences_same : (p : Period) (plan : Plan) (es : List Entry) → fences_of p (plan_as_counted plan) (map entry_as_counted es) ≡ fences_of p plan es
unfolding fences_of
fences_same p plan [] = refl
fences_same p plan (e ∷ es) = rw (sounds_same p e.train, fence_same p (segment_at plan e.segment) e.train, fences_same p plan es) refl

heard_same : (p : Period) (k : ℕ) (es : List Entry) → heard_at p k (map entry_as_counted es) ≡ heard_at p k es
unfolding heard_at
heard_same p k [] = refl
heard_same p k (e ∷ es) = rw (emission_same p e.train, heard_same p k es) refl

close_same : (p : Period) (plan : Plan) (m : Marks) (k : ℕ) (ss : List Segment) → close_from p (plan_as_counted plan) m k ss ≡ close_from p plan m k ss
unfolding close_from
close_same p plan m k [] = refl
close_same p plan m k (s ∷ ss) = rw (heard_same p k plan.entries, close_same p plan m (suc k) ss) refl

bare_same : (p : Period) (plan : Plan) (b : ℤ) → Bare p (plan_as_counted plan) b ↔ Bare p plan b
unfolding Bare
bare_same p plan b = rw (fences_same p plan plan.entries) (λ x. x, λ x. x)

marks_same : (plan : Plan) → own_marks (plan_as_counted plan) ≡ own_marks plan
unfolding own_marks ground_marks
marks_same plan = rw (levels_same Day plan (ground_marks plan), levels_same Night plan (ground_marks plan)) refl

result_same : (p : Period) (plan : Plan) (m : Marks) → result_by p (plan_as_counted plan) m ≡ result_by p plan m
unfolding result_by close_segments
result_same p plan m = rw (levels_same p plan m, close_same p plan m 0 plan.segments) refl

pub slow_trains : SlowTrains
slow_trains =
    record {
      refused = λ t. (nine_only t, λ k. nine t k.0 k.1);
      slow = counts_20;
      fast = counts_typed;
      kept = λ additions t e. ap (λ (q : Plan). q.entries) (last_held additions t) ∙ train_held ours (run ours additions) t e;
      check = check_same;
      level = level_same;
      fence = fence_same;
      typed = typed_same;
      levels = levels_same;
      marks = marks_same;
      result = result_same;
      bare = bare_same;
    }
