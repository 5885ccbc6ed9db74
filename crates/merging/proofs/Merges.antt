-- The merge of two studies that additions made: its lists, the list of additions that it is the study of, and merges with the empty study and of three.
-- Assumes nothing.
use mathlib.Core.Path.{◌≡◌, refl, sym, ap, ap₂, ◌∙◌}
use mathlib.Core.List.{List, ◌++◌}
use native.Mathlib.Omega.{arith}
use Rattle.figures.specs.declared.Refusal.{Refusal}
use Rattle.study.specs.Plan.{Plan, empty_plan}
use Rattle.study.specs.Add.{Limits, Added, answer}
use Rattle.study.specs.Run.{Addition, run_from, run, kept, extend_all, accepted, listed_from, listed}
use Rattle.study.proofs.Additions.{answer_check, refused_study}
use Rattle.study.proofs.Plans.{PlanHeld, accepted_only, accepted-held}
use Rattle.study.proofs.Runs.{plan_by, from_plan, run-accepted, run-append}
use Rattle.study.proofs.Listed.{listed-accepted, listed_all, run-listed}
use Rattle.merging.specs.Merge.{merge_check, merged}
use Rattle.merging.specs.Joined.{joined, merged_plan}
use Rattle.merging.specs.Laws.{typed_whole, FitThree, Associates}
use Rattle.merging.proofs.Checks.{both_within, within}
use Rattle.merging.proofs.Joining.{joined_count, joined_total, joined_nothing, Room, join_all, none_refused_after}
use Rattle.figures.specs.Refusal.{Check}
use Rattle.std.specs.Prelude.{Ok, Err}

-- ---- any two studies

module _ (l : Limits) (first second : Plan) where
  pub merged_check : (merged l first second).check ≡ merge_check l first second
  unfolding merged
  merged_check = answer_check (merge_check l first second) first (run_from l first (listed second))

  pub given_back : (r : Refusal) → (merged l first second).check ≡ Err r → (merged l first second).study ≡ first
  unfolding merged
  given_back r e = refused_study first (run_from l first (listed second)) (sym merged_check ∙ e)

  pub taken_in : (merged l first second).check ≡ Ok tt → merged l first second ≡ record { check = Ok tt; study = run_from l first (listed second) }
  unfolding merged answer
  taken_in e = rw (sym merged_check ∙ e)

-- room for two plans, from the check and back
module _ (l : Limits) (p q : Plan) where
  pub room_of : merge_check l p q ≡ Ok tt → Room l p q
  unfolding merge_check
  room_of e = let w = within l _ _ e in record { segments = w.segments_few; entries = w.entries_few }

  pub room_accepts : Room l p q → merge_check l p q ≡ Ok tt
  unfolding merge_check
  room_accepts room = both_within l _ _ room.segments room.entries

module _ (l : Limits) where
  -- ---- two lists of additions

  module _ (xs ys : List Addition) where
    abbrev both : Added
    both = merged l (run l xs) (run l ys)

    check_is : both.check ≡ merge_check l (accepted l xs) (accepted l ys)
    check_is = merged_check l (run l xs) (run l ys) ∙ ap₂ (merge_check l) (run-accepted l xs) (run-accepted l ys)

    listed_second : listed (run l ys) ≡ listed (accepted l ys)
    listed_second = ap listed (run-accepted l ys)

    made : merge_check l (run l xs) (run l ys) ≡ Ok tt → run_from l (run l xs) (listed (run l ys)) ≡ joined (accepted l xs) (accepted l ys)
    unfolding accepted
    made e =
        let p = accepted l xs in
        let only = accepted_only l empty_plan ys in
        let room = rw (run-accepted l xs, run-accepted l ys) at (room_of l _ _ e) in
        from_plan l (listed (run l ys)) (run l xs)
        ∙ ap₂ (extend_all l) (run-accepted l xs ∙ sym (joined_nothing p)) (listed_second ∙ listed-accepted l ys)
        ∙ join_all l p ys empty_plan room

    pub lists : both.study ≡ merged_plan l (accepted l xs) (accepted l ys)
    unfolding merged merged_plan
    lists =
        plan_by (merge_check l (run l xs) (run l ys)) (run l xs) (run_from l (run l xs) (listed (run l ys))) (joined (accepted l xs) (accepted l ys)) made
        ∙ rw (run-accepted l xs, run-accepted l ys) refl

    pub lists_joined : both.check ≡ Ok tt → both.study ≡ joined (accepted l xs) (accepted l ys)
    unfolding merged_plan kept
    lists_joined e = lists ∙ rw (sym check_is ∙ e)

    -- the same by what the two studies hold
    pub made_joined : merge_check l (run l xs) (run l ys) ≡ Ok tt → both.study ≡ joined (run l xs) (run l ys)
    made_joined e = lists_joined (merged_check l (run l xs) (run l ys) ∙ e) ∙ rw (run-accepted l xs, run-accepted l ys) refl

    pub is_run : both.check ≡ Ok tt → both.study ≡ run l (xs ++ listed (accepted l ys))
    unfolding run
    is_run e =
        ap (λ (a : Added). a.study) (taken_in l (run l xs) (run l ys) e) ∙ run-append l empty_plan xs (listed (run l ys)) ∙ ap (λ (zs : List Addition). run l (xs ++ zs)) listed_second

    pub is_run_of_both : listed (accepted l ys) ≡ ys → both.check ≡ Ok tt → both.study ≡ run l (xs ++ ys)
    is_run_of_both none e = is_run e ∙ ap (λ (zs : List Addition). run l (xs ++ zs)) none

    -- what its study lists, added again, makes it
    pub is_whole : both.check ≡ Ok tt → both.study ≡ run l (typed_whole l xs ys)
    is_whole e =
        let zs = xs ++ listed (accepted l ys) in
        is_run e ∙ sym (run-listed l zs) ∙ ap (λ (p : Plan). run l (listed p)) (sym (is_run e) ∙ lists_joined e)

    -- refused or not, it is the study of a list of additions
    pub merge_is_run : (zs : List Addition) × (both.study ≡ run l zs)
    merge_is_run = go both.check refl
      where
        go : (c : Check) → both.check ≡ c → (zs : List Addition) × (both.study ≡ run l zs)
        go (Ok _) e = (xs ++ listed (accepted l ys), is_run e)
        go (Err r) e = (xs, given_back l (run l xs) (run l ys) r e)

  -- ---- with the empty study

  module _ (xs : List Addition) where
    held : PlanHeld l (run l xs)
    held = rw (run-accepted l xs) (accepted-held l xs)

    pub with_empty : merged l (run l xs) empty_plan ≡ record { check = Ok tt; study = run l xs }
    unfolding listed listed_from run_from
    with_empty =
        let room : Room l (run l xs) empty_plan = record { segments = omega (arith, held.count); entries = omega (arith, held.total) } in
        taken_in l (run l xs) empty_plan (merged_check l (run l xs) empty_plan ∙ room_accepts l (run l xs) empty_plan room)

    pub to_empty : merged l empty_plan (run l xs) ≡ record { check = Ok tt; study = run l xs }
    unfolding run
    to_empty =
        let room : Room l empty_plan (run l xs) = record { segments = omega (arith, held.count); entries = omega (arith, held.total) } in
        taken_in l empty_plan (run l xs) (merged_check l empty_plan (run l xs) ∙ room_accepts l empty_plan (run l xs) room)
        ∙ ap (λ (st : Plan). record { check = Ok tt; study = st }) (run-listed l xs)

  -- ---- three studies

  -- what a merged study lists: what the first lists, then what the second does
  listed_both : (xs ys : List Addition) → Room l (accepted l xs) (accepted l ys) → listed (joined (accepted l xs) (accepted l ys)) ≡ listed (accepted l xs) ++ listed (accepted l ys)
  unfolding accepted
  listed_both xs ys room =
      let a = accepted l xs in
      let only = accepted_only l empty_plan ys in
      ap listed (sym (join_all l a ys empty_plan room) ∙ ap (λ (p : Plan). extend_all l p only) (joined_nothing a))
      ∙ listed_all l only a (accepted-held l xs)
      ∙ ap (λ (zs : List Addition). listed a ++ zs) (ap (λ (p : Plan). accepted_only l p only) (sym (joined_nothing a)) ∙ none_refused_after l a ys empty_plan room ∙ sym (listed-accepted l ys))

  module _ (xs ys zs : List Addition) (few : FitThree l xs ys zs) where
    abbrev a : Plan
    a = accepted l xs

    abbrev b : Plan
    b = accepted l ys

    abbrev c : Plan
    c = accepted l zs

    room_last : Room l b c
    room_last = record { segments = omega arith; entries = omega arith }

    first_accepted : (both xs ys).check ≡ Ok tt
    first_accepted = check_is xs ys ∙ room_accepts l a b (record { segments = omega arith; entries = omega arith })

    last_accepted : (both ys zs).check ≡ Ok tt
    last_accepted = check_is ys zs ∙ room_accepts l b c room_last

    all_accepted : (merged l (both xs ys).study (run l zs)).check ≡ Ok tt
    all_accepted =
        merged_check l (both xs ys).study (run l zs)
        ∙ ap₂ (merge_check l) (lists_joined xs ys first_accepted) (run-accepted l zs)
        ∙ room_accepts l (joined a b) c (record { segments = omega (arith, joined_count a b); entries = omega (arith, joined_total a b) })

    after-accepted : (merged l (run l xs) (both ys zs).study).check ≡ Ok tt
    after-accepted =
        merged_check l (run l xs) (both ys zs).study
        ∙ ap₂ (merge_check l) (run-accepted l xs) (lists_joined ys zs last_accepted)
        ∙ room_accepts l a (joined b c) (record { segments = omega (arith, joined_count b c); entries = omega (arith, joined_total b c) })

    either_first : merged l (run l xs) (both ys zs).study ≡ merged l (both xs ys).study (run l zs)
    either_first =
        let st = run l xs in
        let left = ap listed (lists_joined ys zs last_accepted) ∙ listed_both ys zs room_last in
        let first = ap (λ (x : Added). x.study) (taken_in l st (run l ys) first_accepted) ∙ ap (run_from l st) (listed_second xs ys) in
        taken_in l st (both ys zs).study after-accepted
        ∙ ap (λ (x : Plan). record { check = Ok tt; study = x })
        (ap (run_from l st) left ∙ sym (run-append l st (listed b) (listed c)) ∙ ap₂ (run_from l) (sym first) (sym (listed_second xs zs)))
        ∙ sym (taken_in l (both xs ys).study (run l zs) all_accepted)

    pub associative : Associates l (run l xs) (run l ys) (run l zs)
    associative = record { first = first_accepted; last = last_accepted; all = all_accepted; same = either_first }
