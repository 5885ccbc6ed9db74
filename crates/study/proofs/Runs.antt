-- Every run of additions: its study is what the list alone says was accepted, and a further addition makes a further run.
-- Assumes nothing.
use mathlib.Core.Path.{◌≡◌, refl, ap, ◌∙◌}
use mathlib.Core.List.{List, [], ◌∷◌, ◌++◌}
use lib.ListN.{length}
use Rattle.figures.specs.declared.Segment.{Segment}
use Rattle.figures.specs.declared.Train.{Train}
use Rattle.study.specs.Plan.{Plan, empty_plan}
use Rattle.study.specs.Add.{Limits, segment_answer, train_answer, add_segment, add_train, answer, with_segment, with_train}
use Rattle.study.specs.Run.{Addition, segment, train, step, run_from, run, kept, extend, extend_all, accepted}
use Rattle.figures.specs.Refusal.{Check}
use Rattle.std.specs.Prelude.{Ok, Err}

-- ---- the study is what the list alone says was accepted

pub plan_by : (check : Check) (old new q : Plan) → (check ≡ Ok tt → new ≡ q) → (answer check old new).study ≡ kept check old q
unfolding answer kept
plan_by (Ok _) old new q h = h refl
plan_by (Err r) old new q h = refl

pub step_plan : (l : Limits) (p : Plan) (a : Addition) → step l p a ≡ extend l p a
unfolding step extend add_segment add_train
step_plan l p (segment s) = plan_by (segment_answer l (length p.segments) s) p (with_segment p s) _ (λ e. refl)
step_plan l p (train t) = plan_by (train_answer l (length p.segments) (length p.entries) t) p (with_train p t) _ (λ e. refl)

pub from_plan : (l : Limits) (additions : List Addition) (p : Plan) → run_from l p additions ≡ extend_all l p additions
unfolding run_from extend_all
from_plan l [] p = refl
from_plan l (a ∷ rest) p = from_plan l rest (step l p a) ∙ ap (λ (q : Plan). extend_all l q rest) (step_plan l p a)

pub run-accepted : (l : Limits) (additions : List Addition) → run l additions ≡ accepted l additions
unfolding run accepted
run-accepted l additions = from_plan l additions empty_plan

-- ---- one run after another

pub run-append : (l : Limits) (st : Plan) (xs ys : List Addition) → run_from l (run_from l st xs) ys ≡ run_from l st (xs ++ ys)
unfolding run_from
run-append l st [] ys = refl
run-append l st (x ∷ xs) ys = run-append l (step l st x) xs ys

-- what an addition returns for a run's study is the study of a run
pub segment_is_run : (l : Limits) (additions : List Addition) (s : Segment) → (add_segment l (run l additions) s).study ≡ run l (additions ++ (segment s ∷ []))
unfolding run run_from step
segment_is_run l additions s = run-append l empty_plan additions (segment s ∷ [])

pub train_is_run : (l : Limits) (additions : List Addition) (t : Train) → (add_train l (run l additions) t).study ≡ run l (additions ++ (train t ∷ []))
unfolding run run_from step
train_is_run l additions t = run-append l empty_plan additions (train t ∷ [])
