-- The laws of a merge, and demand 3 for a merged study.
-- Assumes nothing.
use mathlib.Core.Path.{◌≡◌, sym, ap, ◌∙◌, subst}
use Rattle.figures.specs.Refusal.{number_of, check_number}
use Rattle.study.specs.Plan.{Plan}
use Rattle.study.specs.Add.{Limits, ours}
use Rattle.study.specs.Run.{accepted}
use Rattle.study.proofs.Plans.{accepted-held}
use Rattle.study.proofs.Runs.{run-accepted}
use Rattle.request.specs.Request.{AnsweredBy, Answered}
use Rattle.request.specs.Accuracy.{Band, AccurateRuns, sharpest}
use Rattle.request.proofs.Demand3.{demand_3, demand_3_sharp}
use Rattle.merging.specs.Merge.{merge_check}
use Rattle.merging.specs.Joined.{merged_plan}
use Rattle.merging.specs.Laws.{MergeLaws, AccurateMerges, MergedDemand3}
use Rattle.merging.proofs.Checks.{segments_over, entries_over, both_within, twenty_one, twenty_two}
use Rattle.merging.proofs.Merges.{merged_check, given_back, lists, is_run, is_run_of_both, is_whole, merge_is_run, with_empty, to_empty, associative}
use Rattle.merging.proofs.OwnLevels.{own_levels, own_fences}
use Rattle.merging.proofs.OwnResults.{own_result, second_unheard, first_unheard}

pub laws : (l : Limits) → MergeLaws l
unfolding merge_check check_number number_of
laws l =
    record {
      extra_segment = λ a b.
          (λ e. twenty_one l _ _ (sym (ap check_number (merged_check l a b)) ∙ e), λ h. ap check_number (merged_check l a b ∙ segments_over l _ _ h));
      extra_entry = λ a b.
          (λ e. twenty_two l _ _ (sym (ap check_number (merged_check l a b)) ∙ e), λ h. ap check_number (merged_check l a b ∙ entries_over l _ _ h.0 h.1));
      else_accepted = λ a b h k. merged_check l a b ∙ both_within l _ _ h k;
      given_back = given_back l;
      lists = lists l;
      is_run = is_run l;
      is_run_of_both = is_run_of_both l;
      is_whole = is_whole l;
      answered_whole = λ xs ys e before after r.
          (subst (λ (st : Plan). Answered st before after r) (is_whole l xs ys e), subst (λ (st : Plan). Answered st before after r) (sym (is_whole l xs ys e)));
      own_levels = λ p xs ys. own_levels (accepted l xs) (accepted l ys) p (accepted-held l xs);
      own_result = λ p xs ys. own_result p (accepted l xs) (accepted l ys) (accepted-held l xs);
      second_unheard = λ p xs ys. second_unheard p (accepted l xs) (accepted l ys) (accepted-held l xs);
      first_unheard = λ p xs ys. first_unheard p (accepted l xs) (accepted l ys) (accepted-held l xs);
      own_fences = λ p xs ys. own_fences (accepted l xs) (accepted l ys) p (accepted-held l xs);
      with_empty = with_empty l;
      to_empty = to_empty l;
      associative = associative l;
    }

pub merge_laws : MergeLaws ours
merge_laws = laws ours

-- ---- demand 3: a merged study is that of a list of additions

module _ (band : Band) (l : Limits) (runs : AccurateRuns band l) where
  pub merges_accurate : AccurateMerges band l
  merges_accurate xs ys p trains m before after r enough by =
      let made = merge_is_run l xs ys in
      let holds : accepted l made.0 ≡ merged_plan l (accepted l xs) (accepted l ys) = sym (run-accepted l made.0) ∙ sym made.1 ∙ lists l xs ys in
      rw holds at (runs made.0 p (rw holds trains) m before after r (rw holds enough) (subst (λ (st : Plan). AnsweredBy st m before after r) made.1 by))

pub merged_demand_3 : MergedDemand3
merged_demand_3 = merges_accurate _ ours demand_3

pub merged_demand_3_sharp : AccurateMerges sharpest ours
merged_demand_3_sharp = merges_accurate _ ours demand_3_sharp
