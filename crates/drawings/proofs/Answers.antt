-- From two texts to the levels of both: the first refusal ends the request and leaves the cells, and the merged study is asked for its levels.
-- Assumes nothing.
use mathlib.Core.Path.{◌≡◌, refl, sym, ap, ap₂, ◌∙◌, subst}
use mathlib.Core.List.{List, ◌++◌, map, map-append}
use Prim.Native.Nat.{ℕ, ◌+◌, ◌≤◌}
use native.Mathlib.Omega.{arith}
use borrow.Author.Tests.{lt-ltb}
use lib.IntN.{ℤ}
use lib.ListN.{length}
use Rattle.figures.specs.declared.Period.{Period}
use Rattle.figures.specs.declared.Period.TheVariants.{Day, Night}
use Rattle.figures.specs.Refusal.{check_number, check_of, unless, first_refused, Check, answered}
use Rattle.study.specs.Plan.{Plan}
use Rattle.study.specs.Add.{Added, ours}
use Rattle.study.specs.Run.{run}
use Rattle.study.proofs.Plans.{accepted-held}
use Rattle.study.proofs.Runs.{run-accepted}
use Rattle.request.specs.Levels.{own_marks, levels_of, cell_of, result_from, result_by}
use Rattle.request.specs.Request.{Answer, request_check, levels_check, laid, cells_by, answer_of, answer_by}
use Rattle.request.proofs.Answers.{answer_check}
use Rattle.request.proofs.Laid.{own_cells}
use Rattle.request.proofs.Results.{own_allowed, result_is}
use Rattle.text.specs.Text.{read_text}
use Rattle.text.specs.Answer.{check_at, cells_with, plan_in}
use Rattle.text.proofs.Runs.{text_is_run, text_held}
use Rattle.text.proofs.Counted.{accepted_text_entry}
use Rattle.merging.specs.Merge.{merge_check, merged}
use Rattle.merging.specs.Joined.{joined}
use Rattle.merging.proofs.Joining.{joined_total}
use Rattle.merging.proofs.Merges.{merged_check, made_joined, merge_is_run}
use Rattle.merging.proofs.OwnLevels.{own_levels}
use Rattle.merging.proofs.OwnCounts.{own_close}
use Rattle.text.specs.declared.TextFault.{TextFault}
use Rattle.text.specs.Private.{TextRefused}
use Rattle.drawings.specs.declared.Drawing.{Drawing}
use Rattle.drawings.specs.Drawings.{MergedAnswer, answer_told, check_told, merged_of, merged_plan_in, refused_told, told_at, told_unless, merged_answer, texts_check, merged_answer_number, MergedAnswered}
use Rattle.drawings.specs.Private.{total_in, Given, TextGives, entries_together, limits_together, check_together, levels_together, result_together, Together}
use Rattle.drawings.proofs.Texts.{day_entries}
use Rattle.std.specs.Prelude.{Ok, Err, MatchResult}

-- an answer without text and line, as `map_err` gives it
pub told_mapped : (a : Answer) {r : MergedAnswer} → MatchResult a (λ b. r ≡ Ok b) (λ why. r ≡ refused_told 0 0 why) → r ≡ told_at 0 0 a
told_mapped (Ok b) e = e
told_mapped (Err why) e = e

-- the check of what is told is the answer's
pub told_check : (text line : ℕ) (a : Answer) → check_told (told_at text line a) ≡ check_of a
unfolding answer_told check_at check_of
told_check text line (Ok b) = refl
told_check text line (Err why) = refl

-- the first of the refusals is told
first_told : (one two both : Check) (line other : ℕ) (a : Answer) → check_told (told_unless one 1 line (told_unless two 2 other (told_unless both 0 0 (told_at 0 0 a)))) ≡ first_refused (first_refused one (first_refused two both)) (check_of a)
unfolding first_refused answer_told check_at check_of
first_told (Ok _) (Ok _) (Ok _) line other a = told_check 0 0 a
first_told (Ok _) (Ok _) (Err why) line other a = refl
first_told (Ok _) (Err why) both line other a = refl
first_told (Err why) two both line other a = refl

-- a text's refusal
told_as : {place : ℕ} {text : List ℕ} {f : TextFault} → TextRefused place text f → ◌≡◌ {A = MergedAnswer} (Err f) (refused_told place (read_text ours text).line f.fault.refusal)
told_as {f = f} w = ap₂ (λ (place line : ℕ). refused_told place line f.fault.refusal) w.told w.line

-- what the function ensures
abbrev AsAsked : List ℕ → List ℕ → List ℤ → List ℤ → MergedAnswer → Type 0
AsAsked first second before after r = MergedAnswered first second before after r × (check_number (check_told r) ≡ merged_answer_number first second (length before))

module _ (first second : List ℕ) where
  -- whatever the texts, their studies are runs
  merged_runs : merged_of first second ≡ merged ours (run ours (text_is_run ours first).0) (run ours (text_is_run ours second).0)
  merged_runs = ap₂ (merged ours) (text_is_run ours first).1 (text_is_run ours second).1

  -- so as many entries as a study may hold
  few : length (merged_plan_in first second).entries ≤ ours.entries
  few =
      let both = merge_is_run ours (text_is_run ours first).0 (text_is_run ours second).0 in
      subst (λ (plan : Plan). length plan.entries ≤ ours.entries) (sym (ap (λ (a : Added). a.study) merged_runs ∙ both.1 ∙ run-accepted ours both.0)) (accepted-held ours both.0).total

  told : (n : ℕ) → check_told (merged_answer first second n) ≡ first_refused (texts_check first second) (levels_check (merged_plan_in first second) n)
  unfolding merged_answer texts_check
  told n =
      let plan = merged_plan_in first second in
      let one = read_text ours first in
      let two = read_text ours second in
      first_told one.check two.check (merged_of first second).check one.line two.line (answer_by (levels_check plan n) plan (own_marks plan))
      ∙ ap (first_refused (first_refused one.check (first_refused two.check (merged_of first second).check))) (answer_check (levels_check plan n) _ _)

  -- where the merge is accepted, its plan is that of both texts
  pub merged_plan_lem : (merged_of first second).check ≡ Ok tt → merged_plan_in first second ≡ joined (plan_in first) (plan_in second)
  merged_plan_lem e =
      let one = text_is_run ours first in
      let two = text_is_run ours second in
      ap (λ (a : Added). a.study) merged_runs
      ∙ made_joined ours one.0 two.0 (sym (merged_check ours _ _) ∙ sym (ap (λ (a : Added). a.check) merged_runs) ∙ e)
      ∙ sym (ap₂ joined one.1 two.1)

  module _ (p : Period) {one two : Drawing} (a : Given (plan_in first) one) (b : Given (plan_in second) two) where
    abbrev whole : Plan
    whole = joined (plan_in first) (plan_in second)

    -- each text's levels, and its close segments, are its own
    joined_levels : levels_together p one two ≡ map cell_of (levels_of p whole (own_marks whole))
    joined_levels = rw (own_levels (plan_in first) (plan_in second) p (text_held ours first), map-append cell_of) (ap₂ ◌++◌ (a.levels p) (b.levels p))

    joined_result : length whole.entries ≤ ours.entries → result_together p one two ≡ result_by p whole (own_marks whole)
    joined_result rows =
        ap₂ (λ (cells : List ℤ) (close : ℕ). result_from p (total_in cells) close) (joined_levels ∙ own_cells p whole) (ap₂ ◌+◌ (a.close p) (b.close p) ∙ sym (own_close p (plan_in first) (plan_in second) (text_held ours first)))
        ∙ sym (result_is p whole rows)

  asked : {before after : List ℤ} {r : MergedAnswer} → r ≡ merged_answer first second (length before) → after ≡ cells_with (texts_check first second) (merged_plan_in first second) before → AsAsked first second before after r
  unfolding merged_answer_number
  asked {before} e cells =
      (record { answer = e; cells = cells; allowed = own_allowed (merged_plan_in first second) few }, ap (λ (a : MergedAnswer). check_number (check_told a)) e ∙ ap check_number (told (length before)))

  pub first_refused_lem : {f : TextFault} → TextRefused 1 first f → {cells : List ℤ} → AsAsked first second cells cells (Err f)
  unfolding merged_answer texts_check first_refused cells_with
  first_refused_lem w = asked (told_as w ∙ rw w.check) (rw w.check)

  module _ {one : Drawing} (a : TextGives first one) where
    pub second_refused : {f : TextFault} → TextRefused 2 second f → {cells : List ℤ} → AsAsked first second cells cells (Err f)
    unfolding merged_answer texts_check first_refused cells_with
    second_refused w = asked (told_as w ∙ rw (a.accepted, w.check)) (rw (a.accepted, w.check))

    module _ {two : Drawing} (b : TextGives second two) where
      both_check : (merged_of first second).check ≡ limits_together one two
      unfolding merge_check
      both_check = merged_check ours _ _ ∙ rw (a.given.segments, b.given.segments, day_entries a.given, day_entries b.given) refl

      abbrev plan : Plan
      plan = joined (plan_in first) (plan_in second)

      rows : length plan.entries ≡ entries_together one two
      rows = joined_total (plan_in first) (plan_in second) ∙ sym (ap₂ ◌+◌ (day_entries a.given) (day_entries b.given))

      -- at least one entry, so that 23 never comes
      request_is : (n : ℕ) → limits_together one two ≡ Ok tt → check_together one two n ≡ levels_check plan n
      unfolding check_together first_refused levels_check request_check unless
      request_is n e = rw (e, rows, lt-ltb 0 (entries_together one two) (omega (arith, day_entries a.given, accepted_text_entry ours first a.accepted))) refl

      pub both_told : {before after : List ℤ} {answer : Answer} {r : MergedAnswer} → Together one two before after answer → r ≡ told_at 0 0 answer → AsAsked first second before after r
      unfolding merged_answer texts_check first_refused cells_with cells_by laid answer_of answered check_together
      both_told {before = before} {after = after} {answer = answer} {r = r} w is = go (limits_together one two) refl
        where
          levels_are : (p : Period) → levels_together p one two ≡ map cell_of (levels_of p plan (own_marks plan))
          levels_are p = joined_levels p a.given b.given

          go : (c : Check) → limits_together one two ≡ c → AsAsked first second before after r
          go (Err why) e =
              let refused : check_together one two (length before) ≡ Err why = rw e refl in
              let answer_is : answer ≡ Err why = w.answer ∙ rw refused refl in
              asked (is ∙ ap (told_at 0 0) answer_is ∙ rw (a.accepted, b.accepted, both_check ∙ e) refl) (w.cells ∙ rw (a.accepted, b.accepted, both_check ∙ e, refused) refl)
          go (Ok _) e =
              let plan_is = merged_plan_lem (both_check ∙ e) in
              let check = request_is (length before) e in
              let results_are : (p : Period) → result_together p one two ≡ result_by p plan (own_marks plan) = λ p. joined_result p a.given b.given (subst (λ (x : Plan). length x.entries ≤ ours.entries) plan_is few) in
              asked (is ∙ ap (told_at 0 0) w.answer ∙ rw (a.accepted, b.accepted, both_check ∙ e, plan_is, check, results_are Day, results_are Night) refl)
              (w.cells ∙ rw (a.accepted, b.accepted, both_check ∙ e, plan_is, check, levels_are Day, levels_are Night) refl)
