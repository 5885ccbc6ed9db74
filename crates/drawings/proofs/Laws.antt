-- Which refusals two texts get, and that they are answered as one text of both.
-- Assumes nothing.
use mathlib.Core.Path.{◌≡◌, refl, sym, ap, ◌∙◌}
use mathlib.Core.Logic.{◌⊎◌, inl, inr}
use mathlib.Core.Bool.{Bool, true, false}
use mathlib.Core.List.{List}
use Prim.Native.Nat.{ℕ, ◌+◌, ◌≤◌, ◌<◌}
use native.Mathlib.Omega.{arith}
use borrow.Author.Tests.{lt-ltb}
use lib.Dec.{leb}
use lib.IntN.{ℤ}
use lib.ListN.{length}
use Rattle.figures.specs.declared.Refusal.{Refusal}
use Rattle.figures.specs.declared.Refusal.TheVariants.{SegmentLimit, EntryLimit, FewCells}
use Rattle.figures.specs.Refusal.{number_of, check_number, unless, first_refused, Check}
use Rattle.study.specs.Plan.{Plan}
use Rattle.study.specs.Add.{ours}
use Rattle.request.specs.Levels.{own_marks}
use Rattle.request.specs.Request.{Answer, request_check, levels_check, answer_by}
use Rattle.request.proofs.Answers.{answer_check}
use Rattle.text.specs.Text.{read_text}
use Rattle.text.specs.Answer.{check_at, line_at, at_line, plan_in, answer_with, text_answer, cells_with}
use Rattle.text.proofs.Runs.{text_held, accepted_line}
use Rattle.text.proofs.Counted.{accepted_text_entry}
use Rattle.text.proofs.Refusals.{text_refusal_is_own}
use Rattle.merging.specs.Merge.{limits_check, merge_check}
use Rattle.merging.specs.Joined.{joined}
use Rattle.merging.proofs.Joining.{Room, joined_count, joined_total}
use Rattle.merging.proofs.Merges.{merged_check, room_accepts}
use Rattle.drawings.specs.Drawings.{MergedAnswer, answer_told, text_told, line_told, told_at, merged_of, merged_plan_in, merged_answer, texts_check}
use Rattle.drawings.proofs.Answers.{told_check, merged_plan_lem}
use Rattle.drawings.specs.Laws.{OfBothTexts, FirstTold, SecondTold, NoneTold, WholeText, SameAnswer, MergedTexts}
use Rattle.std.specs.Prelude.{Ok, Err}

-- ---- an accepted text has an entry

text_entry : (text : List ℕ) → (read_text ours text).check ≡ Ok tt → 0 < length (plan_in text).entries
text_entry = accepted_text_entry ours

-- ---- the merged study of two texts

module _ (first second : List ℕ) where
  check_is : (merged_of first second).check ≡ merge_check ours (plan_in first) (plan_in second)
  check_is = merged_check ours (read_text ours first).study (read_text ours second).study

  -- within the limits it holds the lists joined
  lists_joined : merge_check ours (plan_in first) (plan_in second) ≡ Ok tt → merged_plan_in first second ≡ joined (plan_in first) (plan_in second)
  lists_joined e = merged_plan_lem first second (check_is ∙ e)

-- ---- which refusals come

limits_of : (segments entries : ℕ) → OfBothTexts (limits_check ours segments entries)
unfolding limits_check unless
limits_of segments entries = go (leb segments ours.segments) (leb entries ours.entries)
  where
    go : (few : Bool) (fewer : Bool) → OfBothTexts (unless few SegmentLimit (unless fewer EntryLimit (Ok tt)))
    go false fewer = inr (inl refl)
    go true false = inr (inr (inl refl))
    go true true = inl refl

request_of : (plan : Plan) (n : ℕ) → 0 < length plan.entries → OfBothTexts (levels_check plan n)
unfolding levels_check request_check unless
request_of plan n some = rw (lt-ltb 0 (length plan.entries) some) (go (leb (length plan.entries + length plan.entries) n))
  where
    go : (enough : Bool) → OfBothTexts (unless enough FewCells (Ok tt))
    go true = inl refl
    go false = inr (inr (inr refl))

-- neither text nor line
nowhere_text : (a : Answer) → text_told (told_at 0 0 a) ≡ 0
unfolding text_told
nowhere_text (Ok b) = refl
nowhere_text (Err why) = refl

nowhere_line : (a : Answer) → line_told (told_at 0 0 a) ≡ 0
unfolding answer_told line_at
nowhere_line (Ok b) = refl
nowhere_line (Err why) = refl

module _ (first second : List ℕ) (n : ℕ) where
  abbrev plan : Plan
  plan = merged_plan_in first second

  abbrev answer : MergedAnswer
  answer = merged_answer first second n

  some_entry : (read_text ours first).check ≡ Ok tt → (merged_of first second).check ≡ Ok tt → 0 < length plan.entries
  some_entry ok e = rw (lists_joined first second (sym (check_is first second) ∙ e)) (omega (arith, joined_total (plan_in first) (plan_in second), text_entry first ok))

  -- a text's own refusal
  own_of : (text : List ℕ) (why : Refusal) → (read_text ours text).check ≡ Err why → number_of why ≤ 13
  unfolding check_number
  own_of text why e = rw e at (text_refusal_is_own ours text)

  first_told : (why : Refusal) → (read_text ours first).check ≡ Err why → FirstTold first answer
  unfolding merged_answer answer_told text_told check_at line_at
  first_told why e = rw e (record { told = refl; check = sym e; own = (why, (refl, own_of first why e)); line = refl })

  module _ (ok : (read_text ours first).check ≡ Ok tt) where
    second_told : (why : Refusal) → (read_text ours second).check ≡ Err why → SecondTold first second answer
    unfolding merged_answer answer_told text_told check_at line_at
    second_told why e = rw (ok, e) (record { told = refl; accepted = ok; check = sym e; own = (why, (refl, own_of second why e)); line = refl })

    module _ (also : (read_text ours second).check ≡ Ok tt) where
      both_of : OfBothTexts (merged_of first second).check
      unfolding merge_check
      both_of = rw (check_is first second) (limits_of _ _)

      none_told : (both : Check) → (merged_of first second).check ≡ both → NoneTold first second answer
      unfolding merged_answer answer_told text_told check_at line_at
      none_told (Err why) e = rw (ok, also, e) (record { told = refl; one = ok; two = also; check = rw e at both_of; line = refl })
      none_told (Ok _) e =
          let a = answer_by (levels_check plan n) plan (own_marks plan) in
          rw (ok, also, e)
          (record { told = nowhere_text a; one = ok; two = also; check = rw (told_check 0 0 a, answer_check (levels_check plan n) _ _) (request_of plan n (some_entry ok e)); line = nowhere_line a })

  told : FirstTold first answer ⊎ (SecondTold first second answer ⊎ NoneTold first second answer)
  told = go (read_text ours first).check refl (read_text ours second).check refl
    where
      go : (one : Check) → (read_text ours first).check ≡ one → (two : Check) → (read_text ours second).check ≡ two → FirstTold first answer ⊎ (SecondTold first second answer ⊎ NoneTold first second answer)
      go (Err why) e two f = inl (first_told why e)
      go (Ok _) e (Err why) f = inr (inl (second_told e why f))
      go (Ok _) e (Ok _) f = inr (inr (none_told e f (merged_of first second).check refl))

-- ---- typed whole

same_told : (a : Answer) → SameAnswer (told_at 0 0 a) (at_line 0 a)
unfolding answer_told text_told
same_told (Ok b) = record { text = refl; answer = refl }
same_told (Err why) = record { text = refl; answer = refl }

module _ (first second whole : List ℕ) (w : WholeText first second whole) where
  room : Room ours (plan_in first) (plan_in second)
  room =
      let few = text_held ours whole in
      let count = ap (λ (p : Plan). length p.segments) w.lists in
      let total = ap (λ (p : Plan). length p.entries) w.lists in
      record { segments = omega (arith, joined_count (plan_in first) (plan_in second), few.count); entries = omega (arith, joined_total (plan_in first) (plan_in second), few.total) }

  within : merge_check ours (plan_in first) (plan_in second) ≡ Ok tt
  within = room_accepts ours (plan_in first) (plan_in second) room

  accepted : (merged_of first second).check ≡ Ok tt
  accepted = check_is first second ∙ within

  holds : merged_plan_in first second ≡ plan_in whole
  holds = lists_joined first second within ∙ sym w.lists

  whole_answer : (n : ℕ) → SameAnswer (merged_answer first second n) (text_answer whole n)
  unfolding merged_answer text_answer answer_with
  whole_answer n =
      rw (w.one, w.two, accepted, holds, w.all, accepted_line ours whole w.all) (same_told (answer_by (levels_check (plan_in whole) n) (plan_in whole) (own_marks (plan_in whole))))

  whole_cells : (cells : List ℤ) → cells_with (texts_check first second) (merged_plan_in first second) cells ≡ cells_with (read_text ours whole).check (plan_in whole) cells
  unfolding texts_check first_refused
  whole_cells cells = rw (w.one, w.two, accepted, holds, w.all) refl

pub merged_texts : MergedTexts
merged_texts = record { told = told; whole_answer = whole_answer; whole_cells = whole_cells }
