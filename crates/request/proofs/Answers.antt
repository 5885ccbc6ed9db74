-- The request for levels: which refusal applies, what the cells hold, and that levels as computed from a plan give the plan's answer.
-- Assumes nothing.
use mathlib.Core.Path.{◌≡◌, refl, sym, ap, ◌∙◌}
use mathlib.Core.List.{List, ◌++◌, append_assoc, map}
use mathlib.Core.Bool.{Bool, false}
use Prim.Native.Nat.{ℕ, ◌+◌, ◌<◌, ◌≤◌}
use native.Mathlib.Omega.{arith}
use borrow.Author.Tests.{lt-ltb, le-ltb, le-leb, lt-leb}
use lib.IntN.{ℤ, pos}
use lib.ListN.{length, take, drop, get_or, length-take, length-map, get_or-map}
use lib.Seq.{paste, take_all, take_at, drop-append-add, drop-drop}
use Rattle.energy.specs.Total.{heard}
use Rattle.energy.proofs.Cells.{heard-kept, heard_few}
use Rattle.energy.proofs.Named.{total_allowed}
use Rattle.figures.specs.declared.Period.{Period}
use Rattle.figures.specs.declared.Period.TheVariants.{Day, Night}
use Rattle.figures.specs.declared.Refusal.{Refusal}
use Rattle.figures.specs.declared.Refusal.TheVariants.{NoEntry, FewCells}
use Rattle.figures.specs.Refusal.{unless, number_of, check_number, check_of, Check}
use Rattle.figures.specs.Refusal as F
use Rattle.figures.specs.Rules.{lowest_number}
use Rattle.figures.proofs.Numbers.{unless_number, check_of-answered}
use Rattle.propagation.specs.declared.Propagation.{Propagation}
use Rattle.propagation.specs.Propagation.{propagation_of}
use Rattle.study.specs.declared.Entry.{Entry}
use Rattle.study.specs.Plan.{Plan, segment_at, no_segment}
use Rattle.study.specs.Add.{ours}
use Rattle.request.specs.declared.PeriodResult.{PeriodResult}
use Rattle.request.specs.Levels.{levels_of, level_at, own_marks, MarksAllowed}
use Rattle.request.specs.Request.{Answer, cells_needed, request_check, request_number, levels_check, levels_number, laid, cells_by, answer_of, cell_from, cells_from, tenths_of, marks_of, places_of, period_from, check_from, TotalAllowed, AnsweredBy, Answered, AnsweredFrom}
use Rattle.request.proofs.Cells.{cells_of, cells_length, cells_found}
use Rattle.request.proofs.Found.{none_adds}
use Rattle.request.proofs.Results.{period_is, own_allowed}
use Rattle.std.specs.Prelude.{Ok, Err}

-- ---- which refusal applies

module _ (entries needed n : ℕ) where
  pub no_entries : entries ≡ 0 → request_check entries needed n ≡ Err NoEntry
  unfolding request_check unless
  no_entries e = simp (le-ltb 0 entries (omega arith))

  pub few_cells : (entries ≡ 0 → ⊥) → n < needed → request_check entries needed n ≡ Err FewCells
  unfolding request_check unless
  few_cells some h = simp (lt-ltb 0 entries (omega (arith, some)), lt-leb needed n h)

  pub enough_cells : (entries ≡ 0 → ⊥) → needed ≤ n → request_check entries needed n ≡ Ok tt
  unfolding request_check unless
  enough_cells some h = simp (lt-ltb 0 entries (omega (arith, some)), le-leb needed n h)

  request_number_lem : check_number (request_check entries needed n) ≡ request_number entries needed n
  unfolding request_check request_number lowest_number check_number number_of
  request_number_lem = simp unless_number

-- an answer's check, and its number
pub answer_check : (check : Check) (d n : PeriodResult) → check_of (answer_of check d n) ≡ check
unfolding answer_of
answer_check check d n = check_of-answered check _

answer_number : (check : Check) (d n : PeriodResult) {r : Answer} → r ≡ answer_of check d n → check_number (check_of r) ≡ check_number check
answer_number check d n e = ap (λ (r : Answer). check_number (check_of r)) e ∙ ap check_number (answer_check check d n)

-- and what is asked of a plan
pub plan_number : (plan : Plan) (n : ℕ) (d e : PeriodResult) → check_number (check_of (answer_of (levels_check plan n) d e)) ≡ levels_number plan n
unfolding levels_check levels_number
plan_number plan n d e = answer_number (levels_check plan n) d e refl ∙ request_number_lem (length plan.entries) (cells_needed (length plan.entries)) n

-- ---- levels as computed

pub mark_allowed : (cells : List ℤ) → TotalAllowed cells
mark_allowed cells = total_allowed (heard (take ours.entries cells)) (omega (arith, heard_few (take ours.entries cells), length-take ours.entries cells)) (heard-kept (take ours.entries cells))

-- both are written
pub both_laid : (day night before : List ℤ) {first after : List ℤ} → first ≡ paste before 0 day (length day) → after ≡ paste first (length day) night (length night) → after ≡ day ++ (night ++ drop (length day + length night) before)
both_laid day night before {first} {after} a b =
    let rest = day ++ drop (0 + length day) before in
    let d : first ≡ rest = a ∙ ap (λ (x : List ℤ). x ++ drop (0 + length day) before) (take_all (length day) day (omega arith)) in
    let w : 0 + length day + length night ≡ length day + length night = omega arith in
    let past : drop (length day + length night) rest ≡ drop (length day + length night) before =
    drop-append-add day (drop (0 + length day) before) (length night) ∙ drop-drop (length night) (0 + length day) before ∙ ap (λ (k : ℕ). drop k before) w in
    b ∙ ap (λ (x : List ℤ). paste x (length day) night (length night)) d
    ∙ rw (take_at day (drop (0 + length day) before) (length day) refl, take_all (length night) night (omega arith), past) (append_assoc day night (drop (length day + length night) before))

module _ (day night : List ℤ) (places : List ℕ) (close : List Bool) (before : List ℤ) where
  -- a refusal leaves the cells
  pub refused_from : (r : Refusal) {a : Answer} → check_from day night (length before) ≡ Err r → a ≡ Err r → AnsweredFrom day night places close before before a
  unfolding laid answer_of F.answered
  refused_from r e f = record { cells = rw e; answer = f ∙ rw e; day = mark_allowed day; night = mark_allowed night }

  -- without one, the levels stand before what further cells held
  pub laid_from : {after : List ℤ} {d n : PeriodResult} → check_from day night (length before) ≡ Ok tt → after ≡ day ++ (night ++ drop (length day + length night) before)
      → d ≡ period_from Day day places close → n ≡ period_from Night night places close → AnsweredFrom day night places close before after (Ok (record { day = d; night = n }))
  unfolding laid answer_of F.answered
  laid_from e a d n = record { cells = a ∙ rw e; answer = rw (d, n, e); day = mark_allowed day; night = mark_allowed night }

  -- as they do when one period's are written after the other's
  pub accepted_from : {first after : List ℤ} {d n : PeriodResult} → check_from day night (length before) ≡ Ok tt → first ≡ paste before 0 day (length day) → after ≡ paste first (length day) night (length night)
      → d ≡ period_from Day day places close → n ≡ period_from Night night places close → AnsweredFrom day night places close before after (Ok (record { day = d; night = n }))
  accepted_from e a b d n = laid_from e (both_laid day night before a b) d n

  pub from_number : {after : List ℤ} {r : Answer} → AnsweredFrom day night places close before after r → check_number (check_of r) ≡ request_number (length day) (length day + length night) (length before)
  from_number a = answer_number _ _ _ a.answer ∙ request_number_lem (length day) (length day + length night) (length before)

-- an answer, and its number
pub answered_from : {ds ns : List ℤ} {ps : List ℕ} {cs : List Bool} {before after : List ℤ} {r : Answer} → AnsweredFrom ds ns ps cs before after r → AnsweredFrom ds ns ps cs before after r × (check_number (check_of r) ≡ request_number (length ds) (length ds + length ns) (length before))
answered_from {ds} {ns} {ps} {cs} {before} a = (a, from_number ds ns ps cs before a)

-- the cells of entries, by what their segments add, are as many in each period as there are entries
pub many_cells : (added : List Propagation) (es : List Entry) (p : Period) → length (cells_from p added es) ≡ length es
many_cells added es p = length-map es (cell_from p (tenths_of added))

module _ (added : List Propagation) (es : List Entry) (before : List ℤ) where
  -- so these are asked for both
  pub entries_check : check_from (cells_from Day added es) (cells_from Night added es) (length before) ≡ request_check (length es) (cells_needed (length es)) (length before)
  entries_check = rw (many_cells added es Day, many_cells added es Night) refl

  pub entries_refused : (r : Refusal) → request_check (length es) (cells_needed (length es)) (length before) ≡ Err r → AnsweredFrom (cells_from Day added es) (cells_from Night added es) (places_of es) (marks_of added) before before (Err r)
  entries_refused r e = refused_from (cells_from Day added es) (cells_from Night added es) (places_of es) (marks_of added) before r (entries_check ∙ e) refl

  pub entries_number : {after : List ℤ} {r : Answer} → AnsweredFrom (cells_from Day added es) (cells_from Night added es) (places_of es) (marks_of added) before after r
      → check_number (check_of r) ≡ request_number (length es) (cells_needed (length es)) (length before)
  entries_number a = from_number _ _ _ _ _ a ∙ rw (many_cells added es Day, many_cells added es Night) refl

-- an answer's number
pub plan_answer_number : {plan : Plan} {before after : List ℤ} {r : Answer} → Answered plan before after r → check_number (check_of r) ≡ levels_number plan (length before)
plan_answer_number {plan} {before} a = ap (λ (r : Answer). check_number (check_of r)) a.by.answer ∙ plan_number plan (length before) _ _

-- ---- of a plan

-- as many segments and entries as a study may hold
pub record Few (plan : Plan) : Type 0 where
  pub segments : length plan.segments ≤ ours.segments
  pub entries : length plan.entries ≤ ours.entries

-- the levels of a plan's entries, their places, and the close marks of its segments
pub record Computed (plan : Plan) (ds ns : List ℤ) (ps : List ℕ) (cs : List Bool) : Type 0 where
  pub day : ds ≡ cells_of Day plan
  pub night : ns ≡ cells_of Night plan
  pub places : ps ≡ places_of plan.entries
  pub close : (k : ℕ) → get_or cs k false ≡ (propagation_of (segment_at plan k)).close

module _ {plan : Plan} (few : Few plan) {day night : List ℤ} {places : List ℕ} {close : List Bool} (c : Computed plan day night places close) {before after : List ℤ} {r : Answer} (q : AnsweredFrom day night places close before after r) where
  same_check : check_from day night (length before) ≡ levels_check plan (length before)
  unfolding levels_check
  same_check =
      let d : length day ≡ length plan.entries = ap length c.day ∙ cells_length Day plan in
      let n : length night ≡ length plan.entries = ap length c.night ∙ cells_length Night plan in
      rw (d, n)

  pub computed_answer : AnsweredBy plan (own_marks plan) before after r
  unfolding cells_by own_marks levels_of level_at
  computed_answer =
      record {
        cells = q.cells ∙ rw (same_check, c.day, c.night);
        answer =
            q.answer
            ∙ rw (same_check, c.day, c.night, c.places, period_is Day plan close few.segments few.entries c.close, period_is Night plan close few.segments few.entries c.close);
      }

  pub computed_marks : MarksAllowed plan (own_marks plan)
  computed_marks = own_allowed plan few.entries

-- what each of its segments adds
abbrev pub added_of : Plan → List Propagation
added_of plan = map propagation_of plan.segments

module _ (plan : Plan) where
  tenths_at : (k : ℕ) → get_or (tenths_of (added_of plan)) k (pos 0) ≡ (propagation_of (segment_at plan k)).tenths
  tenths_at k =
      ap (λ (d : ℤ). get_or (tenths_of (added_of plan)) k d) (sym (ap (λ (p : Propagation). p.tenths) none_adds))
      ∙ get_or-map (λ (p : Propagation). p.tenths) (added_of plan) k (propagation_of no_segment)
      ∙ ap (λ (p : Propagation). p.tenths) (get_or-map propagation_of plan.segments k no_segment)

  mark_at : (k : ℕ) → get_or (marks_of (added_of plan)) k false ≡ (propagation_of (segment_at plan k)).close
  mark_at k =
      ap (λ (d : Bool). get_or (marks_of (added_of plan)) k d) (sym (ap (λ (p : Propagation). p.close) none_adds))
      ∙ get_or-map (λ (p : Propagation). p.close) (added_of plan) k (propagation_of no_segment)
      ∙ ap (λ (p : Propagation). p.close) (get_or-map propagation_of plan.segments k no_segment)

  plan_cells : (p : Period) → cells_from p (added_of plan) plan.entries ≡ cells_of p plan
  plan_cells p = cells_found p plan (tenths_of (added_of plan)) tenths_at

  plan_computed : {added : List Propagation} {es : List Entry} → added ≡ added_of plan → es ≡ plan.entries → Computed plan (cells_from Day added es) (cells_from Night added es) (places_of es) (marks_of added)
  plan_computed e f = record { day = rw (e, f) (plan_cells Day); night = rw (e, f) (plan_cells Night); places = ap places_of f; close = λ k. rw e (mark_at k) }

  -- the answer of what was worked out of a plan is the plan's
  pub plan_answered : Few plan → {added : List Propagation} {es : List Entry} {before after : List ℤ} {r : Answer} → added ≡ added_of plan → es ≡ plan.entries
      → AnsweredFrom (cells_from Day added es) (cells_from Night added es) (places_of es) (marks_of added) before after r → Answered plan before after r
  plan_answered few e f q = let c = plan_computed e f in record { by = computed_answer few c q; allowed = computed_marks few c q }
