-- What a merge is, beside the equation `merged`: of any two studies, and of two that additions made (02, L5). At our limits proved as `merge_laws` and `merged_demand_3` in proofs/Laws.antt.
-- Assumes nothing.
use Rattle.std.specs.Prelude.{◌≡◌, ◌↔◌, true, List, [], ◌++◌, ℕ, ◌+◌, ◌≤◌, ◌<◌, ℤ, length, Ok, Err}
use Rattle.figures.specs.declared.Period.{Period}
use Rattle.figures.specs.declared.Refusal.{Refusal}
use Rattle.figures.specs.Refusal.{check_number, check_of}
use Rattle.study.specs.Plan.{Plan, empty_plan}
use Rattle.study.specs.Add.{Limits, ours}
use Rattle.study.specs.Run.{Addition, run, accepted, listed}
use Rattle.energy.specs.Mark.{total_of}
use Rattle.request.specs.Levels.{Marks, levels_of, figures, close_segments, result_from, result_by, own_marks}
use Rattle.request.specs.Request.{Answer, cells_needed, AnsweredBy, Answered, result_in}
use Rattle.request.specs.Accuracy.{fences_of, has_trains, Band, demanded, AccurateToBare}
use Rattle.merging.specs.Merge.{merged}
use Rattle.merging.specs.Joined.{joined, merged_plan}

-- how many segments, and how many entries, two studies have together
abbrev pub segments_together : Plan → Plan → ℕ
segments_together first second = length first.segments + length second.segments

abbrev pub entries_together : Plan → Plan → ℕ
entries_together first second = length first.entries + length second.entries

-- both typed whole: what the joined lists are as a list of additions
abbrev pub typed_whole : Limits → List Addition → List Addition → List Addition
typed_whole l xs ys = listed (joined (accepted l xs) (accepted l ys))

-- three lists of additions make studies that are few enough together
pub record FitThree (l : Limits) (xs ys zs : List Addition) : Type 0 where
  pub segments : length (accepted l xs).segments + length (accepted l ys).segments + length (accepted l zs).segments ≤ l.segments
  pub entries : length (accepted l xs).entries + length (accepted l ys).entries + length (accepted l zs).entries ≤ l.entries

-- nothing is refused, whichever two are merged first, and the study is the same
pub record Associates (l : Limits) (a b c : Plan) : Type 0 where
  pub first : (merged l a b).check ≡ Ok tt
  pub last : (merged l b c).check ≡ Ok tt
  pub all : (merged l (merged l a b).study c).check ≡ Ok tt
  pub same : merged l a (merged l b c).study ≡ merged l (merged l a b).study c

pub record MergeLaws (l : Limits) : Type 0 where
  -- of any two studies: 21 is given exactly where the segments are too many, else 22 exactly where the entries are, and a refusal gives back the first
  pub extra_segment : (first second : Plan) → (check_number (merged l first second).check ≡ 21) ↔ (l.segments < segments_together first second)
  pub extra_entry : (first second : Plan) → (check_number (merged l first second).check ≡ 22) ↔ ((segments_together first second ≤ l.segments) × (l.entries < entries_together first second))
  pub else_accepted : (first second : Plan) → segments_together first second ≤ l.segments → entries_together first second ≤ l.entries → (merged l first second).check ≡ Ok tt
  -- of `merged`, for `merge` hands out no study with a refusal: by its contract (`first: &Study`) the caller has the first still
  pub given_back : (first second : Plan) (r : Refusal) → (merged l first second).check ≡ Err r → (merged l first second).study ≡ first
  -- of the studies of two lists of additions: an accepted merge holds the two lists joined, so that nothing is refused on the way, and a refused one the first's
  pub lists : (xs ys : List Addition) → (merged l (run l xs) (run l ys)).study ≡ merged_plan l (accepted l xs) (accepted l ys)
  -- it is the study of the first list with what the second has had accepted after it. What was refused there stays out, such as a train before any segment
  pub is_run : (xs ys : List Addition) → (merged l (run l xs) (run l ys)).check ≡ Ok tt → (merged l (run l xs) (run l ys)).study ≡ run l (xs ++ listed (accepted l ys))
  -- so of both lists, one after the other, where nothing of the second was refused
  pub is_run_of_both : (xs ys : List Addition) → listed (accepted l ys) ≡ ys → (merged l (run l xs) (run l ys)).check ≡ Ok tt → (merged l (run l xs) (run l ys)).study ≡ run l (xs ++ ys)
  -- it is the study typed whole, and answers every request as that
  pub is_whole : (xs ys : List Addition) → (merged l (run l xs) (run l ys)).check ≡ Ok tt → (merged l (run l xs) (run l ys)).study ≡ run l (typed_whole l xs ys)
  pub answered_whole : (xs ys : List Addition) → (merged l (run l xs) (run l ys)).check ≡ Ok tt → (before after : List ℤ) (r : Answer) →
      Answered (merged l (run l xs) (run l ys)).study before after r ↔ Answered (run l (typed_whole l xs ys)) before after r
  -- by the program's own marks each entry has the level that it has in its own study, the close counts of the segments add, and the result is that of these
  pub own_levels : (p : Period) (xs ys : List Addition) → let a = accepted l xs in let b = accepted l ys in
      levels_of p (joined a b) (own_marks (joined a b)) ≡ levels_of p a (own_marks a) ++ levels_of p b (own_marks b)
  pub own_result : (p : Period) (xs ys : List Addition) → let a = accepted l xs in let b = accepted l ys in
      result_by p (joined a b) (own_marks (joined a b))
      ≡ result_from p (total_of (figures (levels_of p a (own_marks a) ++ levels_of p b (own_marks b)))) (close_segments p a (own_marks a) + close_segments p b (own_marks b))
  -- each entry has its own fence too, so the bare level is that of both studies' fences
  pub own_fences : (p : Period) (xs ys : List Addition) → let a = accepted l xs in let b = accepted l ys in
      fences_of p (joined a b) (joined a b).entries ≡ fences_of p a a.entries ++ fences_of p b b.entries
  -- of a study without entries nothing is heard
  pub second_unheard : (p : Period) (xs ys : List Addition) → let a = accepted l xs in let b = accepted l ys in
      b.entries ≡ [] → result_by p (joined a b) (own_marks (joined a b)) ≡ result_by p a (own_marks a)
  pub first_unheard : (p : Period) (xs ys : List Addition) → let a = accepted l xs in let b = accepted l ys in
      a.entries ≡ [] → result_by p (joined a b) (own_marks (joined a b)) ≡ result_by p b (own_marks b)
  -- merged with the empty study, on either side, a study is what it was
  pub with_empty : (xs : List Addition) → merged l (run l xs) empty_plan ≡ record { check = Ok tt; study = run l xs }
  pub to_empty : (xs : List Addition) → merged l empty_plan (run l xs) ≡ record { check = Ok tt; study = run l xs }
  -- of three studies that are few enough, either two may be merged first
  pub associative : (xs ys zs : List Addition) → FitThree l xs ys zs → Associates l (run l xs) (run l ys) (run l zs)

-- Demand 3 for a merged study, refused merges in it: as `AccurateRuns` of request, for every two lists of additions and what they alone say that it holds
abbrev pub AccurateMerges : Band → Limits → Type 0
AccurateMerges band l =
    (xs ys : List Addition) (p : Period) → let plan = merged_plan l (accepted l xs) (accepted l ys) in has_trains p plan.entries ≡ true →
    (m : Marks) (before after : List ℤ) (r : Answer) → cells_needed (length plan.entries) ≤ length before →
    AnsweredBy ((merged l (run l xs) (run l ys)).study) m before after r →
    (check_of r ≡ Ok tt) × AccurateToBare band p plan (result_in p r)

abbrev pub MergedDemand3 : Type 0
MergedDemand3 = AccurateMerges demanded ours
