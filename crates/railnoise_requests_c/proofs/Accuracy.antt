-- Demand 3 for what C gets of two texts.
-- Assumes nothing.
use mathlib.Core.Path.{◌≡◌, refl, sym, ap, ap₂, ◌∙◌, subst}
use mathlib.Core.List.{List}
use Prim.Native.Nat.{ℕ, ◌≤◌, ◌<◌}
use native.Mathlib.Omega.{arith}
use lib.IntN.{ℤ}
use lib.ListN.{length}
use Rattle.figures.specs.declared.Period.{Period}
use Rattle.figures.specs.declared.Period.TheVariants.{Day, Night}
use Rattle.figures.specs.Periods.{in_period}
use Rattle.figures.specs.Refusal.{answered, first_refused}
use Rattle.study.specs.Plan.{Plan}
use Rattle.study.specs.Add.{Added, ours}
use Rattle.study.specs.Run.{Addition, run, kept, accepted}
use Rattle.study.proofs.Runs.{run-accepted}
use Rattle.request.specs.Levels.{own_marks}
use Rattle.request.specs.Request.{Answer, cells_needed, levels_check, answer_of, answer_by, AnsweredBy, result_in}
use Rattle.request.proofs.Demand3.{request_answered}
use Rattle.text.specs.Text.{read_text}
use Rattle.text.specs.Additions.{additions_of}
use Rattle.text.specs.Answer.{cells_with}
use Rattle.text.proofs.Runs.{accepted_text_is_run}
use Rattle.text.proofs.Counted.{accepted_text_has_entry}
use Rattle.merging.specs.Merge.{merge_check, merged}
use Rattle.merging.specs.Joined.{merged_plan}
use Rattle.merging.proofs.Joining.{joined_count, joined_total}
use Rattle.merging.proofs.Merges.{merged_check, room_accepts, lists}
use Rattle.merging.proofs.Laws.{merged_demand_3}
use Rattle.drawings.specs.Drawings.{merged_of, merged_plan_in, told_at, merged_answer, texts_check}
use Rattle.c_values.specs.Values.{exported_period}
use Rattle.c_values.proofs.Accuracy.{exported_accurate}
use Rattle.railnoise_requests_c.specs.declared.RailnoiseMergedAnswer.{RailnoiseMergedAnswer}
use Rattle.railnoise_requests_c.specs.Merged.{exported_merged, MergedCalled}
use Rattle.railnoise_requests_c.specs.Accuracy.{both_in, merged_period_in, MergedAccurate, MergedCallAccurate}
use Rattle.std.specs.Prelude.{Ok, Err}

period_exported : (p : Period) (a : Answer) → merged_period_in p (exported_merged (told_at 0 0 a)) ≡ exported_period (result_in p a)
unfolding merged_period_in exported_merged result_in in_period
period_exported Day (Ok both) = refl
period_exported Night (Ok both) = refl
period_exported Day (Err why) = refl
period_exported Night (Err why) = refl

module _ (first second : List ℕ) (ok : (read_text ours first).check ≡ Ok tt) (also : (read_text ours second).check ≡ Ok tt) where
  abbrev xs : List Addition
  xs = additions_of ours first

  abbrev ys : List Addition
  ys = additions_of ours second

  -- the merged study is that of the two lists
  both_is : merged_of first second ≡ merged ours (run ours xs) (run ours ys)
  both_is = ap₂ (merged ours) (accepted_text_is_run ours first ok) (accepted_text_is_run ours second also)

  module _ (few : length (both_in first second).segments ≤ ours.segments) (fewer : length (both_in first second).entries ≤ ours.entries) where
    within : merge_check ours (accepted ours xs) (accepted ours ys) ≡ Ok tt
    unfolding both_in
    within =
        let a = accepted ours xs in
        let b = accepted ours ys in
        room_accepts ours a b (record { segments = omega (arith, joined_count a b); entries = omega (arith, joined_total a b) })

    check_is : (merged_of first second).check ≡ Ok tt
    check_is = rw both_is (merged_check ours (run ours xs) (run ours ys) ∙ rw (run-accepted ours xs, run-accepted ours ys) within)

    plan_is : merged_plan ours (accepted ours xs) (accepted ours ys) ≡ both_in first second
    unfolding merged_plan kept both_in
    plan_is = rw within

    holds : merged_plan_in first second ≡ both_in first second
    holds = ap (λ (both : Added). both.study) both_is ∙ (lists ours xs ys ∙ plan_is)

    module _ (before after : List ℤ) (r : RailnoiseMergedAnswer) (call : MergedCalled first second before after r) (enough : cells_needed (length (both_in first second).entries) ≤ length before) where
      abbrev plan : Plan
      plan = merged_plan_in first second

      abbrev answer : Answer
      answer = answer_by (levels_check plan (length before)) plan (own_marks plan)

      whole : r ≡ exported_merged (told_at 0 0 answer)
      unfolding merged_answer
      whole = call.answer ∙ rw (ok, also, check_is)

      request_is : AnsweredBy plan (own_marks plan) before after answer
      unfolding texts_check first_refused cells_with
      request_is = record { cells = rw (ok, also, check_is) at call.cells; answer = refl }

      some : 0 < length (both_in first second).entries
      unfolding both_in
      some = omega (arith, joined_total (accepted ours xs) (accepted ours ys), accepted_text_has_entry ours first ok)

      answered_runs : AnsweredBy ((merged ours (run ours xs) (run ours ys)).study) (own_marks plan) before after answer
      answered_runs = subst (λ (both : Added). AnsweredBy (both.study) (own_marks plan) before after answer) both_is request_is

      accurate : MergedAccurate (both_in first second) r
      unfolding exported_merged answer_of answered
      accurate =
          let check : levels_check plan (length before) ≡ Ok tt = rw holds (request_answered (both_in first second) (length before) some enough) in
          subst (MergedAccurate (both_in first second)) (sym whole)
          (record {
            refusal = rw check refl;
            text = rw check refl;
            line = rw check refl;
            period = λ p trains.
                rw (period_exported p answer)
                (exported_accurate p (both_in first second) (result_in p answer)
                (rw plan_is at (merged_demand_3 xs ys p (rw plan_is trains) (own_marks plan) before after answer (rw plan_is enough) answered_runs).1));
          })

pub merged_call_accurate : MergedCallAccurate
merged_call_accurate first second before after r call ok also few fewer enough = accurate first second ok also few fewer before after r call enough
