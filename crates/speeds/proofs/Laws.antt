-- What a planner can rely on: when each refusal comes, that the speed is the highest, that every lower one is safe, and silence.
-- Assumes nothing.
use mathlib.Core.Path.{◌≡◌, refl, sym, ap, ap₂, ◌∙◌, subst, fun_ext}
use mathlib.Core.Logic.{◌⊎◌, inl, inr, ◌↔◌}
use mathlib.Core.Bool.{Bool, true, false, ◌&&◌}
use Prim.Native.Nat.{ℕ, ◌-◌, ◌≤◌, ◌<◌}
use native.Mathlib.Nat.{le_refl, lt_of_not-le}
use native.Mathlib.Decide.{dec_le, dec_lt}
use native.Mathlib.Omega.{arith}
use lib.Dec.{T, leb, leb→le, le→leb}
use lib.IntN.{ℤ}
use lib.ListN.{length, get_or, length-set}
use Rattle.decibel.proofs.Greatest.{greatest_most, greatest_above, greatest_tested}
use Rattle.decibel.specs.declared.Level.{Level}
use Rattle.figures.specs.declared.Period.{Period}
use Rattle.figures.specs.declared.Refusal.{Refusal}
use Rattle.figures.specs.declared.Refusal.TheVariants.{EntryNumber, NoSpeed}
use Rattle.figures.specs.Rules.{least_speed, most_speed}
use Rattle.emission.specs.Speed.{least_counted}
use Rattle.emission.specs.Trains.{sounds}
use Rattle.study.specs.Plan.{Plan, no_entry}
use Rattle.request.specs.Accuracy.{has_trains}
use Rattle.speeds.specs.Speeds.{with_speed, own_total, stays_below, highest_below, SpeedAnswer, speed_check, speed_by, speed_of, answer_at, highest_in, speed_answer}
use Rattle.speeds.specs.Laws.{IsEntry, FewEntries, BelowAt, Highest, SpeedLaws}
use Rattle.speeds.proofs.Below.{below_falls}
use Rattle.speeds.proofs.Checks.{outside, none_found, some_found}
use Rattle.speeds.proofs.OfPlan.{own_rises}
use Rattle.speeds.proofs.Silence.{same-speed, silent_total, unheard_total}
use Rattle.speeds.proofs.Bare.{bare_at_lem}
use Rattle.figures.specs.Refusal.{Check, answered}
use Rattle.std.specs.Prelude.{Ok, Err}

-- ---- the highest speed of a total that goes by the speed

module _ (limit : ℤ) (total : ℕ → Level) where
  passes : (v : ℕ) → least_counted ≤ v → stays_below limit (total v) ≡ true → T (leb least_counted v && stays_below limit (total v))
  passes v low e = go (leb least_counted v) (stays_below limit (total v)) (le→leb least_counted v low) e
    where
      go : (a b : Bool) → T a → b ≡ true → T (a && b)
      go true b t e = subst T (sym e) tt
      go false b t e = absurd t

  passed : (v : ℕ) → T (leb least_counted v && stays_below limit (total v)) → (least_counted ≤ v) × (stays_below limit (total v) ≡ true)
  passed v t = go (leb least_counted v) refl (stays_below limit (total v)) t
    where
      go : (a : Bool) → leb least_counted v ≡ a → (b : Bool) → T (a && b) → (least_counted ≤ v) × (b ≡ true)
      go true e true t = (leb→le least_counted v (subst T (sym e) tt), refl)
      go true e false t = absurd t
      go false e b t = absurd t

  most : highest_below limit total ≤ most_speed
  unfolding highest_below
  most = greatest_most _ most_speed

  -- where there is one, it passes
  found : 0 < highest_below limit total → (least_counted ≤ highest_below limit total) × (stays_below limit (total (highest_below limit total)) ≡ true)
  unfolding highest_below
  found h = passed _ (greatest_tested (λ v. leb least_counted v && stays_below limit (total v)) most_speed h)

  -- and no higher one does
  reached : (v : ℕ) → least_counted ≤ v → v ≤ most_speed → stays_below limit (total v) ≡ true → v ≤ highest_below limit total
  unfolding highest_below
  reached v low high e = greatest_above (λ w. leb least_counted w && stays_below limit (total w)) most_speed v high (passes v low e)

-- ---- which answer comes

no_number : ◌≡◌ {A = SpeedAnswer} (Err NoSpeed) (Err EntryNumber) → ⊥
no_number e = let z : ◌≡◌ {A = ℕ} 0 1 = cc in omega arith

no_accepted : {why : Refusal} {v : ℕ} → ◌≡◌ {A = SpeedAnswer} (Ok v) (Err why) → ⊥
no_accepted e = let z : ◌≡◌ {A = ℕ} 0 1 = cc in omega arith

same_why : {a b : Refusal} → ◌≡◌ {A = SpeedAnswer} (Err a) (Err b) → a ≡ b
same_why e = cc

same_speed : {a b : ℕ} → ◌≡◌ {A = SpeedAnswer} (Ok a) (Ok b) → a ≡ b
same_speed e = cc

-- the three ways
data Way (entry entries v : ℕ) : Type 0 where
  away : ((1 ≤ entry) × (entry ≤ entries) → ⊥) → speed_check entry entries v ≡ Err EntryNumber → Way entry entries v
  none : (1 ≤ entry) × (entry ≤ entries) → v ≡ 0 → speed_check entry entries v ≡ Err NoSpeed → Way entry entries v
  some : (1 ≤ entry) × (entry ≤ entries) → 0 < v → speed_check entry entries v ≡ Ok tt → Way entry entries v

way : (entry entries v : ℕ) → Way entry entries v
way entry entries v = go (dec_le 1 entry) (dec_le entry entries) (dec_le v 0)
  where
    go : Dec (1 ≤ entry) → Dec (entry ≤ entries) → Dec (v ≤ 0) → Way entry entries v
    go (no f) d e = away (λ h. f h.0) (outside entry entries v (λ h. f h.0))
    go d (no f) e = away (λ h. f h.1) (outside entry entries v (λ h. f h.1))
    go (yes g) (yes h) (yes e) = none (g, h) (omega arith) (none_found entry entries v g h (omega arith))
    go (yes g) (yes h) (no f) = some (g, h) (lt_of_not-le f) (some_found entry entries v g h (lt_of_not-le f))

module _ (plan : Plan) (entry : ℕ) (p : Period) (limit : ℤ) where
  abbrev total : ℕ → Level
  total v = own_total p (with_speed plan (entry - 1) v)

  abbrev entries : ℕ
  entries = length plan.entries

  abbrev top : ℕ
  top = highest_in plan entry p limit

  top_is : top ≡ highest_below limit total
  unfolding highest_in
  top_is = refl

  -- an answer by its check
  by_check : (c : Check) → speed_check entry entries top ≡ c → speed_answer plan entry p limit ≡ speed_by c top
  unfolding speed_answer
  by_check c e = ap (λ (x : Check). speed_by x top) e

  refused_is : {why : Refusal} → speed_check entry entries top ≡ Err why → speed_answer plan entry p limit ≡ Err why
  unfolding answered
  refused_is e = by_check _ e

  accepted_is : speed_check entry entries top ≡ Ok tt → speed_answer plan entry p limit ≡ Ok top
  unfolding answered
  accepted_is e = by_check _ e

  entry_law : (speed_answer plan entry p limit ≡ Err EntryNumber) ↔ (IsEntry plan entry → ⊥)
  entry_law = go (way entry entries top)
    where
      go : Way entry entries top → (speed_answer plan entry p limit ≡ Err EntryNumber) ↔ (IsEntry plan entry → ⊥)
      go (away f e) = ((λ _. f), λ _. refused_is e)
      go (none h z e) = ((λ x. absurd (no_number (sym (refused_is e) ∙ x))), λ f. absurd (f h))
      go (some h z e) = ((λ x. absurd (no_accepted (sym (accepted_is e) ∙ x))), λ f. absurd (f h))

  speed_law : (speed_answer plan entry p limit ≡ Err NoSpeed) ↔ (IsEntry plan entry × ((v : ℕ) → least_counted ≤ v → v ≤ most_speed → BelowAt plan entry p limit v → ⊥))
  speed_law = go (way entry entries top)
    where
      go : Way entry entries top → (speed_answer plan entry p limit ≡ Err NoSpeed) ↔ (IsEntry plan entry × ((v : ℕ) → least_counted ≤ v → v ≤ most_speed → BelowAt plan entry p limit v → ⊥))
      go (away f e) = ((λ x. absurd (no_number (sym x ∙ refused_is e))), λ x. absurd (f x.0))
      go (none h z e) = ((λ _. (h, λ v low high b. omega (arith, reached limit total v low high b, top_is))), λ _. refused_is e)
      go (some h z e) =
          let f = found limit total (omega (arith, top_is)) in
          ((λ x. absurd (no_accepted (sym (accepted_is e) ∙ x))), λ x. absurd (x.1 (highest_below limit total) f.0 (most limit total) f.1))

  highest_law : (v : ℕ) → speed_answer plan entry p limit ≡ Ok v → IsEntry plan entry × Highest plan entry p limit v
  highest_law v x = go (way entry entries top)
    where
      go : Way entry entries top → IsEntry plan entry × Highest plan entry p limit v
      go (away f e) = absurd (no_accepted (sym x ∙ refused_is e))
      go (none h z e) = absurd (no_accepted (sym x ∙ refused_is e))
      go (some h z e) =
          let f = found limit total (omega (arith, top_is)) in (
            h,
            rw (same_speed (sym x ∙ accepted_is e), top_is)
                (record { least = f.0; most = most limit total; below = f.1; none_higher = λ w l m b. omega (arith, reached limit total w (omega (arith, f.0)) m b) }),
          )

  refused_law : (why : Refusal) → speed_answer plan entry p limit ≡ Err why → ((why ≡ EntryNumber) ⊎ (why ≡ NoSpeed)) × (speed_of (speed_answer plan entry p limit) ≡ 0)
  unfolding speed_of
  refused_law why x = (go (way entry entries top), rw x)
    where
      go : Way entry entries top → (why ≡ EntryNumber) ⊎ (why ≡ NoSpeed)
      go (away f e) = inl (same_why (sym x ∙ refused_is e))
      go (none h z e) = inr (same_why (sym x ∙ refused_is e))
      go (some h z e) = absurd (no_accepted (sym (accepted_is e) ∙ x))

  sure : (b : Bool) → T b → b ≡ true
  sure true t = refl
  sure false t = absurd t

  -- what stays below at a speed does at every lower one
  falls : FewEntries plan → (v w : ℕ) → least_speed ≤ w → w ≤ v → v ≤ most_speed → BelowAt plan entry p limit v → BelowAt plan entry p limit w
  falls few v w low order high e = sure (stays_below limit (total w)) (below_falls limit (own_rises p plan (entry - 1) few w v low order high) (subst T (sym e) tt))

  lower_law : FewEntries plan → (v : ℕ) → speed_answer plan entry p limit ≡ Ok v → (w : ℕ) → least_speed ≤ w → w ≤ v → BelowAt plan entry p limit w
  lower_law few v x w low h = let top = (highest_law v x).1 in falls few v w low h top.most top.below

  slowest_law : FewEntries plan → IsEntry plan entry → (speed_answer plan entry p limit ≡ Err NoSpeed) ↔ (BelowAt plan entry p limit least_counted → ⊥)
  slowest_law few h = (
    (λ x. (speed_law.0 x).1 least_counted (le_refl least_counted) (omega arith)),
    (λ f. speed_law.1 (h, λ v low high e. f (falls few v least_counted (omega arith) low high e))),
  )

  typed_law : (v : ℕ) → speed_answer (with_speed plan (entry - 1) v) entry p limit ≡ speed_answer plan entry p limit
  unfolding speed_answer highest_in with_speed
  typed_law v =
      ap₂ (answer_at entry) (length-set plan.entries (entry - 1) _) (ap (highest_below limit) (fun_ext (λ w. ap (own_total p) (same-speed plan (entry - 1) v w))))

  -- ---- silence

  silent_law : sounds p (get_or plan.entries (entry - 1) no_entry).train ≡ false → (v : ℕ) → speed_answer plan entry p limit ≡ Ok v → v ≡ most_speed
  silent_law quiet v x =
      let top = (highest_law v x).1 in
      let same : total most_speed ≡ total v = silent_total p plan (entry - 1) quiet most_speed v in
      last (dec_lt v most_speed) top.most (λ l. top.none_higher most_speed l (le_refl most_speed) (ap (stays_below limit) same ∙ top.below))
    where
      last : {v : ℕ} → Dec (v < most_speed) → v ≤ most_speed → (v < most_speed → ⊥) → v ≡ most_speed
      last (yes l) h f = absurd (f l)
      last (no g) h f = omega (arith, g)

  unheard_law : IsEntry plan entry → has_trains p plan.entries ≡ false → speed_answer plan entry p limit ≡ Ok most_speed
  unfolding stays_below
  unheard_law h quiet =
      let silent : BelowAt plan entry p limit most_speed = ap (stays_below limit) (unheard_total p plan (entry - 1) most_speed quiet) in
      let all : top ≡ most_speed = omega (arith, top_is, most limit total, reached limit total most_speed (omega arith) (le_refl most_speed) silent) in
      accepted_is (some_found entry entries top h.0 h.1 (omega (arith, all))) ∙ ap Ok all

pub speed_laws : SpeedLaws
speed_laws =
    record {
      entry_number = entry_law;
      no_speed = speed_law;
      answered = highest_law;
      refused = refused_law;
      rises = λ plan few entry p. own_rises p plan (entry - 1) few;
      lower = λ plan few entry p limit. lower_law plan entry p limit few;
      slowest = λ plan few entry p limit. slowest_law plan entry p limit few;
      typed = typed_law;
      silent_entry = silent_law;
      silent_period = unheard_law;
      bare = bare_at_lem;
    }
