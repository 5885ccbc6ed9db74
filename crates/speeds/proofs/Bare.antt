-- How far rounding carries an answer: the bare level at a speed at which the total stays below the limit, and at one at which it does not (demand 3).
-- Assumes nothing.
use mathlib.Core.Path.{◌≡◌, refl, sym, ap, ◌∙◌}
use mathlib.Core.Bool.{Bool, true, false}
use mathlib.Core.List.{List}
use Prim.Native.Nat.{ℕ, zero, suc, ◌-◌, ◌≤◌}
use native.Mathlib.Nat.{zero-lt-suc}
use native.Mathlib.Omega.{arith}
use lib.IntN.{ℤ, pos, ◌+ℤ◌, ◌*ℤ◌}
use lib.ListN.{get_or, set, length-set}
use lib.Signed.{lt_z, ◌≤ℤ◌}
use Rattle.decibel.specs.Round.{micro, whole_decibels}
use Rattle.decibel.proofs.Ints.{add_is, mul_is, floor_is, ints}
use Rattle.decibel.proofs.Round.{micro_is}
use Rattle.energy.proofs.Accurate.{accurate}
use Rattle.energy.proofs.Order.{less, not_less}
use Rattle.figures.specs.declared.Train.{Train}
use Rattle.figures.specs.declared.Period.{Period}
use Rattle.figures.specs.declared.Refusal.{Refusal}
use Rattle.figures.specs.declared.Refusal.TheVariants.{Row, Speed, Vehicles, Trains}
use Rattle.figures.specs.Refusal.{unless, Check}
use Rattle.figures.specs.Rules.{least_speed, most_speed, row_kept, speed_kept, vehicles_kept, trains_kept, train_check}
use Rattle.study.specs.declared.Entry.{Entry}
use Rattle.study.specs.Plan.{Plan, no_entry}
use Rattle.study.specs.Add.{ours}
use Rattle.study.specs.Run.{Addition, accepted}
use Rattle.study.proofs.Plans as Plans
use Rattle.study.proofs.Plans.{Each, EntryHeld, PlanHeld, accepted-held}
use Rattle.request.specs.Levels.{result_by, own_marks}
use Rattle.request.specs.Accuracy.{has_trains, demanded, AccurateToBare}
use Rattle.request.proofs.Entries.{result_accurate}
use Rattle.speeds.specs.Speeds.{at_speed, entry_at_speed, with_speed, own_total, stays_below}
use Rattle.speeds.specs.Laws.{BareAt}
use Rattle.speeds.proofs.Faster.{speed_kept_lem}
use Rattle.speeds.proofs.Silence.{has_same}
use Rattle.std.specs.Prelude.{Ok, Err}

-- ---- a plan that additions made, with an entry at another speed

-- an accepted train is accepted at each speed from 1 to 300 km/h
kept_at : (t : Train) (v : ℕ) → least_speed ≤ v → v ≤ most_speed → train_check t ≡ Ok tt → train_check (at_speed v t) ≡ Ok tt
unfolding train_check row_kept vehicles_kept trains_kept unless
kept_at t v low high e = rw (speed_kept_lem t v low high) (go (row_kept t) (speed_kept t) (vehicles_kept t) (trains_kept t) e)
  where
    no : {why : Refusal} {A : Type 0} → ◌≡◌ {A = Check} (Err why) (Ok tt) → A
    no e = let z : ◌≡◌ {A = ℕ} 0 1 = cc in absurd (omega arith)

    go : (row speed vehicles trains : Bool) → unless row Row (unless speed Speed (unless vehicles Vehicles (unless trains Trains (Ok tt)))) ≡ Ok tt → unless row Row (unless vehicles Vehicles (unless trains Trains (Ok tt))) ≡ Ok tt
    go true true vehicles trains e = e
    go true false vehicles trains e = no e
    go false speed vehicles trains e = no e

module _ (v : ℕ) (low : least_speed ≤ v) (high : v ≤ most_speed) where
  entries_held : (plan : Plan) {es : List Entry} (i : ℕ) → Each (EntryHeld plan.segments) es → Each (EntryHeld plan.segments) (set es i (entry_at_speed v (get_or es i no_entry)))
  entries_held plan i Plans.Each.none = Plans.Each.none
  entries_held plan zero (Plans.Each.next {x = e} h rest) = Plans.Each.next (record { segment = h.segment; train = kept_at e.train v low high h.train }) rest
  entries_held plan (suc i) (Plans.Each.next h rest) = Plans.Each.next h (entries_held plan i rest)

  plan_held : (plan : Plan) (i : ℕ) → PlanHeld ours plan → PlanHeld ours (with_speed plan i v)
  unfolding with_speed
  plan_held plan i held =
      record {
        count = held.count;
        total = omega (arith, held.total, length-set plan.entries i (entry_at_speed v (get_or plan.entries i no_entry)));
        segments = held.segments;
        entries = entries_held plan i held.entries;
      }

  -- demand 3 for it, by the program's own marks
  accurate_at : (additions : List Addition) (p : Period) (i : ℕ) → let plan = accepted ours additions in has_trains p plan.entries ≡ true → let at = with_speed plan i v in AccurateToBare demanded p at (result_by p at (own_marks at))
  accurate_at additions p i trains =
      let plan = accepted ours additions in
      let moved = plan_held plan i (accepted-held ours additions) in
      result_accurate demanded (λ limit mark b h fs rs es. accurate limit mark b h es) p (with_speed plan i v) (own_marks (with_speed plan i v)) moved moved.total (has_same p plan i v ∙ trains)

-- ---- a figure and the limit

figure_under : (limit f b : ℤ) → lt_z (whole_decibels f) limit ≡ true → b ≤ℤ (micro f +ℤ pos 460000) → (b +ℤ pos 140000) ≤ℤ (pos 1000000 *ℤ limit)
unfolding whole_decibels
figure_under limit f b e h =
    let l = less (whole_decibels f) limit e in
    omega (arith, ints, l, floor_is (f +ℤ pos 5) 10 (zero-lt-suc _), add_is f (pos 5), micro_is f, add_is (micro f) (pos 460000), add_is b (pos 140000), mul_is 1000000 limit)

figure_over : (limit f b : ℤ) → lt_z (whole_decibels f) limit ≡ false → micro f ≤ℤ (b +ℤ pos 460000) → (pos 1000000 *ℤ limit) ≤ℤ (b +ℤ pos 960000)
unfolding whole_decibels
figure_over limit f b e h =
    let l = not_less (whole_decibels f) limit e in
    omega (arith, ints, l, floor_is (f +ℤ pos 5) 10 (zero-lt-suc _), add_is f (pos 5), micro_is f, add_is b (pos 460000), add_is b (pos 960000), mul_is 1000000 limit)

module _ (additions : List Addition) (entry : ℕ) (p : Period) (limit : ℤ) (v : ℕ) (trains : has_trains p (accepted ours additions).entries ≡ true) (low : least_speed ≤ v) (high : v ≤ most_speed) where
  abbrev plan : Plan
  plan = accepted ours additions

  abbrev at : Plan
  at = with_speed plan (entry - 1) v

  close : AccurateToBare demanded p at (result_by p at (own_marks at))
  close = accurate_at v low high additions p (entry - 1) trains

  figure_is : stays_below limit (own_total p at) ≡ lt_z (whole_decibels close.accurate.figure) limit
  unfolding own_total stays_below
  figure_is = ap (stays_below limit) close.accurate.level

  not_true : (x : Bool) → (x ≡ true → ⊥) → x ≡ false
  not_true true f = absurd (f refl)
  not_true false f = refl

  pub bare_at_lem : BareAt plan entry p limit v
  bare_at_lem =
      record {
        bare = close.bare;
        is = close.is;
        only = close.only;
        below = λ e. figure_under limit close.accurate.figure close.bare (sym figure_is ∙ e) close.accurate.below;
        above = λ f. figure_over limit close.accurate.figure close.bare (sym figure_is ∙ not_true (stays_below limit (own_total p at)) f) close.accurate.above;
      }
