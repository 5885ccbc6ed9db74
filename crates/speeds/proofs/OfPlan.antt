-- The answer of a plan is the answer from its cells: what another speed of one entry changes in them, and in the period's total.
-- Assumes nothing.
use mathlib.Core.Path.{◌≡◌, refl, sym, ap, ap₂, ◌∙◌, fun_ext}
use mathlib.Core.List.{List, [], ◌∷◌, map}
use Prim.Native.Nat.{ℕ, zero, suc, ◌-◌, ◌≤◌}
use native.Mathlib.Omega.{arith}
use lib.IntN.{ℤ}
use lib.ListN.{length, take, get_or, set, length-set}
use lib.Seq.{take_all}
use Rattle.decibel.specs.declared.Level.{Level}
use Rattle.energy.specs.Total.{heard}
use Rattle.energy.specs.Mark.{total_of}
use Rattle.figures.specs.declared.Train.{Train}
use Rattle.figures.specs.declared.Period.{Period}
use Rattle.figures.specs.declared.Refusal.TheVariants.{EntryNumber}
use Rattle.figures.specs.Refusal.{check_number, check_of, answered}
use Rattle.propagation.specs.Propagation.{propagation_of}
use Rattle.study.specs.declared.Entry.{Entry}
use Rattle.study.specs.Plan.{Plan, segment_at, no_entry}
use Rattle.study.specs.Add.{ours}
use Rattle.request.specs.Levels.{level_at, levels_of, cell_of, ground_marks, own_marks, MarksAllowed}
use Rattle.request.specs.Request.{cell_in}
use Rattle.request.proofs.Cells.{cells_of, cells_length, entry_level}
use Rattle.request.proofs.Results.{own_level, own_allowed}
use Rattle.request.proofs.Totals.{cells_heard}
use Rattle.speeds.specs.Speeds.{at_speed, entry_at_speed, with_speed, own_total, highest_below, SpeedAnswer, speed_number, answer_at, highest_in, highest_from, speed_answer, SpeedAnswered, SpeedAnsweredFrom}
use Rattle.speeds.specs.Private.{total_at}
use Rattle.speeds.proofs.Faster.{total_with, Rising, speed_rises}
use Rattle.speeds.proofs.Checks.{outside, answer_number}
use Rattle.std.specs.Prelude.{Err}

map-set : {A B : Type 0} (f : A → B) (xs : List A) (i : ℕ) (x : A) → map f (set xs i x) ≡ set (map f xs) i (f x)
map-set f [] i x = refl
map-set f (y ∷ ys) zero x = refl
map-set f (y ∷ ys) (suc i) x = ap₂ ◌∷◌ refl (map-set f ys i x)

-- the total by the program's own marks is that of the cells
pub total_is : (p : Period) (plan : Plan) → own_total p plan ≡ (total_of (heard (cells_of p plan))).level
unfolding own_total levels_of
total_is p plan = own_level p plan ∙ ap (λ (ls : List ℤ). (total_of ls).level) (sym (cells_heard p plan (ground_marks plan) plan.entries))

module _ (p : Period) (plan : Plan) (i : ℕ) where
  -- the entry, its train, and what its segment adds
  abbrev pub entry_in : Entry
  entry_in = get_or plan.entries i no_entry

  abbrev pub added_in : ℤ
  added_in = (propagation_of (segment_at plan entry_in.segment)).tenths

  cells_at : (v : ℕ) → cells_of p (with_speed plan i v) ≡ set (cells_of p plan) i (cell_in p added_in (at_speed v entry_in.train))
  unfolding with_speed levels_of level_at ground_marks
  cells_at v =
      ap (map cell_of) (map-set (level_at p plan (ground_marks plan)) plan.entries i (entry_at_speed v entry_in))
      ∙ map-set cell_of (map (level_at p plan (ground_marks plan)) plan.entries) i _
      ∙ ap (λ (l : Level). set (cells_of p plan) i (cell_of l)) (entry_level p plan (entry_at_speed v entry_in))

  pub total_at_lem : (v : ℕ) → own_total p (with_speed plan i v) ≡ total_at p (cells_of p plan) i added_in entry_in.train v
  total_at_lem v = total_is p (with_speed plan i v) ∙ ap (λ (cs : List ℤ). (total_of (heard cs)).level) (cells_at v)

  -- a higher speed has no lower total
  pub own_rises : length plan.entries ≤ ours.entries → Rising (λ v. own_total p (with_speed plan i v))
  own_rises few v w low order high =
      rw (total_at_lem v, total_at_lem w) (speed_rises p (cells_of p plan) i added_in entry_in.train (omega (arith, cells_length p plan)) v w low order high)

-- 01 allows the program's own marks at every speed
pub allowed_at : (plan : Plan) (i : ℕ) → length plan.entries ≤ ours.entries → (v : ℕ) → MarksAllowed (with_speed plan i v) (own_marks (with_speed plan i v))
unfolding with_speed
allowed_at plan i few v = own_allowed (with_speed plan i v) (omega (arith, length-set plan.entries i (entry_at_speed v (get_or plan.entries i no_entry))))

module _ (plan : Plan) (entry : ℕ) (p : Period) (limit : ℤ) (few : length plan.entries ≤ ours.entries) where
  highest_is : highest_in plan entry p limit ≡ highest_from (cells_of p plan) entry (added_in p plan (entry - 1)) (entry_in p plan (entry - 1)).train p limit
  unfolding highest_in highest_from
  highest_is = ap (highest_below limit) (fun_ext (λ v. total_at_lem p plan (entry - 1) v))

  pub outside_refused : ((1 ≤ entry) × (entry ≤ length plan.entries) → ⊥) → SpeedAnswered plan entry p limit (Err EntryNumber)
  unfolding speed_answer answered
  outside_refused out = record { answer = rw (outside entry (length plan.entries) (highest_in plan entry p limit) out) refl; allowed = allowed_at plan (entry - 1) few }

  -- from the plan's own cells, and from the entry's level at each speed
  pub plan_answered : {cells : List ℤ} {tenths : ℤ} {t : Train} {r : SpeedAnswer} → cells ≡ cells_of p plan → ((v : ℕ) → cell_in p tenths (at_speed v t) ≡ cell_in p (added_in p plan (entry - 1)) (at_speed v (entry_in p plan (entry - 1)).train))
      → SpeedAnsweredFrom (take ours.entries cells) entry tenths t p limit r → SpeedAnswered plan entry p limit r
  unfolding speed_answer highest_from
  plan_answered {cells} {tenths} {t} {r} c levels a =
      let whole : take ours.entries cells ≡ cells_of p plan = ap (take ours.entries) c ∙ take_all ours.entries (cells_of p plan) (omega (arith, cells_length p plan)) in
      let same : highest_from (cells_of p plan) entry tenths t p limit ≡ highest_in plan entry p limit =
      ap (highest_below limit) (fun_ext (λ v. ap (λ (x : ℤ). total_with (cells_of p plan) (entry - 1) x) (levels v))) ∙ sym highest_is in
      record { answer = a.answer ∙ ap (λ (cs : List ℤ). answer_at entry (length cs) (highest_from cs entry tenths t p limit)) whole ∙ ap₂ (answer_at entry) (cells_length p plan) same; allowed = allowed_at plan (entry - 1) few }

-- the answer's number
pub answered_number : {plan : Plan} {entry : ℕ} {p : Period} {limit : ℤ} {r : SpeedAnswer} → SpeedAnswered plan entry p limit r → check_number (check_of r) ≡ speed_number entry (length plan.entries) (highest_in plan entry p limit)
unfolding speed_answer
answered_number {plan} {entry} a = answer_number entry (length plan.entries) _ a.answer
