-- A period's result from its levels, and the marks that it rests on, which 01 allows.
-- Assumes nothing.
use mathlib.Core.Path.{◌≡◌, refl, sym, ap, ◌∙◌, subst}
use mathlib.Core.Bool.{Bool, false, cond, ◌&&◌, true}
use Prim.Native.Nat.{ℕ, ◌+◌, ◌≤◌, min}
use native.Mathlib.Nat.{min_comm}
use native.Mathlib.Omega.{arith}
use lib.IntN.{ℤ}
use lib.ListN.{length, get_or, take, length-take}
use native.Mathlib.Nat.{min-eq_left, lt_of_not-le}
use native.Mathlib.Decide.{dec_le}
use lib.Seq.{take_all}
use mathlib.Core.List.{List, map}
use Rattle.std.specs.Int.{from_bool}
use Rattle.energy.specs.declared.Total.{Total}
use Rattle.energy.specs.Total.{heard, total_by, TotalMark}
use Rattle.energy.specs.Mark.{total_mark, total_of}
use Rattle.energy.proofs.Named.{total_allowed}
use Rattle.figures.specs.declared.Period.{Period}
use Rattle.figures.specs.declared.Period.TheVariants.{Day, Night}
use Rattle.propagation.specs.Ground.{SegmentMark}
use Rattle.propagation.specs.Propagation.{propagation_of}
use Rattle.propagation.proofs.SegmentSum.{own_mark_allowed}
use Rattle.study.specs.Add.{ours}
use Rattle.request.specs.declared.PeriodResult.{PeriodResult}
use Rattle.study.specs.Plan.{Plan, segment_at}
use Rattle.request.specs.Levels.{levels_of, level_at, figures, total_mark_in, ground_marks, own_marks, close_segments, met_by, result_from, result_by, MarksAllowed}
use Rattle.request.specs.Request.{sounds_at, count_to, period_from, places_of}
use Rattle.request.specs.Private.{CloseSegments}
use Rattle.request.proofs.Totals.{figures-kept, figures_few, cells_heard, cells_sound}
use Rattle.request.proofs.Cells.{cells_of, cells_length}
use Rattle.request.proofs.Counts.{own_marks_lem, close_found}

-- ---- a period's result

take_min : {A : Type 0} (t : ℕ) (xs : List A) → take (min t (length xs)) xs ≡ take t xs
take_min t xs = go (dec_le t (length xs))
  where
    go : Dec (t ≤ length xs) → take (min t (length xs)) xs ≡ take t xs
    go (yes h) = ap (λ (k : ℕ). take k xs) (min-eq_left h)
    go (no f) = let h : length xs ≤ t = omega (arith, lt_of_not-le f) in take_all (min t (length xs)) xs (omega arith) ∙ sym (take_all t xs h)

-- 1 for a mark, as the code converts it
pub byte_is : (b : Bool) → from_bool b ≡ cond b 1 0
byte_is true = refl
byte_is false = refl

-- as the code works it out, from the total and the close segments
pub result_from_lem : (p : Period) (count : ℕ) {t total : Total} {one : ℕ} {met : Bool} → t ≡ total → one ≡ cond t.close 1 0 → met ≡ met_by p t.level → ◌≡◌ {A = PeriodResult} (record { level = t.level; close = count + one; met = met }) (result_from p total count)
unfolding result_from
result_from_lem p count e o m = rw (o, m, e)

-- and both of these from the levels
pub period_from_lem : (p : Period) (levels : List ℤ) {rows : ℕ} {places : List ℕ} {close : List Bool} {count : ℕ} {r : PeriodResult} → rows ≡ min (length levels) ours.entries → CloseSegments (take rows levels) places close count
    → r ≡ result_from p (total_of (heard (take ours.entries (take rows levels)))) count → r ≡ period_from p levels places close
unfolding period_from
period_from_lem p levels {rows} e count is =
    let first : take rows levels ≡ take ours.entries levels = ap (λ (k : ℕ). take k levels) (e ∙ min_comm (length levels) ours.entries) ∙ take_min ours.entries levels in
    let again : take ours.entries (take ours.entries levels) ≡ take ours.entries levels = take_all ours.entries (take ours.entries levels) (omega (arith, length-take ours.entries levels)) in
    is ∙ rw (count.is, first, again)

module _ (p : Period) (plan : Plan) where
  pub own_total_lem : total_mark_in p (own_marks plan) ≡ total_mark (figures (levels_of p plan (ground_marks plan)))
  unfolding own_marks
  own_total_lem = go p
    where
      go : (q : Period) → total_mark_in q (own_marks plan) ≡ total_mark (figures (levels_of q plan (ground_marks plan)))
      go Day = refl
      go Night = refl

  -- the level that the program's own marks give is the total of the entries' levels
  pub own_level : (result_by p plan (own_marks plan)).level ≡ (total_of (figures (map (level_at p plan (ground_marks plan)) plan.entries))).level
  unfolding result_by result_from levels_of level_at own_marks total_of
  own_level = ap (λ (b : Bool). (total_by b (figures (map (level_at p plan (ground_marks plan)) plan.entries))).level) own_total_lem

  -- all of them are heard
  all_taken : length plan.entries ≤ ours.entries → take ours.entries (cells_of p plan) ≡ cells_of p plan
  all_taken rows = take_all ours.entries (cells_of p plan) (omega (arith, cells_length p plan))

  -- from the levels in the cells: their total, and the verdict on it
  pub result_is : length plan.entries ≤ ours.entries → result_by p plan (own_marks plan) ≡ result_from p (total_of (heard (take ours.entries (cells_of p plan)))) (close_segments p plan (own_marks plan))
  unfolding result_by levels_of level_at own_marks total_of
  result_is rows =
      ap (λ (t : Total). result_from p t (close_segments p plan (own_marks plan)))
      (ap (λ (b : Bool). total_by b (figures (map (level_at p plan (ground_marks plan)) plan.entries))) own_total_lem
      ∙ ap total_of (sym (cells_heard p plan (ground_marks plan) plan.entries))
      ∙ ap (λ (cs : List ℤ). total_of (heard cs)) (sym (all_taken rows)))

  -- and the segments heard in them
  pub period_is : (close : List Bool) → length plan.segments ≤ ours.segments → length plan.entries ≤ ours.entries → ((k : ℕ) → get_or close k false ≡ (propagation_of (segment_at plan k)).close)
      → period_from p (cells_of p plan) (places_of plan.entries) close ≡ result_by p plan (own_marks plan)
  unfolding period_from levels_of
  period_is close few rows all =
      ap (result_from p (total_of (heard (take ours.entries (cells_of p plan)))))
      (ap (λ (cs : List ℤ). count_to (λ k. get_or close k false && sounds_at k (places_of plan.entries) cs) ours.segments) (all_taken rows)
      ∙ close_found p plan close (λ k. sounds_at k (places_of plan.entries) (cells_of p plan)) few all (λ k. cells_sound p plan (ground_marks plan) k plan.entries))
      ∙ sym (result_is rows)

-- ---- the marks

own_total_mark : (p : Period) (plan : Plan) → length plan.entries ≤ ours.entries → TotalMark (figures (levels_of p plan (ground_marks plan))) (total_mark (figures (levels_of p plan (ground_marks plan))))
unfolding levels_of
own_total_mark p plan few =
    total_allowed (figures (map (level_at p plan (ground_marks plan)) plan.entries)) (omega (arith, figures_few p plan (ground_marks plan) plan.entries)) (figures-kept p plan (ground_marks plan) plan.entries)

-- 01 allows the program's own marks
pub own_allowed : (plan : Plan) → length plan.entries ≤ ours.entries → MarksAllowed plan (own_marks plan)
unfolding own_marks levels_of level_at propagation_of
own_allowed plan few =
    record {
      grounds = λ k h. subst (SegmentMark (segment_at plan k)) (sym (own_marks_lem plan k)) (own_mark_allowed (segment_at plan k));
      day = own_total_mark Day plan few;
      night = own_total_mark Night plan few;
    }
