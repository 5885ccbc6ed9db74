-- A list of additions from the empty study, refused ones in it (01, "Contracts and evidence"): the study that it makes, and what the list alone says was accepted.
-- Assumes nothing.
use Rattle.std.specs.Prelude.{cond, List, [], ◌∷◌, ◌++◌, ℕ, ◌+◌, eqb, length, Ok, Err}
use Rattle.figures.specs.declared.Segment.{Segment}
use Rattle.figures.specs.declared.Train.{Train}
use Rattle.study.specs.declared.Entry.{Entry}
use Rattle.study.specs.Plan.{Plan, empty_plan}
use Rattle.study.specs.Add.{Limits, segment_answer, train_answer, with_segment, with_train, add_segment, add_train}
use Rattle.figures.specs.Refusal.{Check}

pub data Addition : Type 0 where
  segment : Segment → Addition
  train : Train → Addition

-- each addition gets the study that the one before it returned, refused or not
unfoldable pub step : Limits → Plan → Addition → Plan
step l st (segment s) = (add_segment l st s).study
step l st (train t) = (add_train l st t).study

unfoldable pub run_from : Limits → Plan → List Addition → Plan
run_from l st [] = st
run_from l st (a ∷ rest) = run_from l (step l st a) rest

unfoldable pub run : Limits → List Addition → Plan
run l additions = run_from l empty_plan additions

-- ---- the same plan by the checks alone: the accepted ones in order, each entry with the last accepted segment before it. `run` is what the functions
-- answer one after another; what a list of additions makes is shown by this account, and `run-accepted` (proofs/Runs.antt) shows that both are one

unfoldable pub kept : Check → Plan → Plan → Plan
kept (Ok _) old new = new
kept (Err r) old new = old

unfoldable pub extend : Limits → Plan → Addition → Plan
extend l p (segment s) =
    kept (segment_answer l (length p.segments) s) p (with_segment p s)
extend l p (train t) =
    kept (train_answer l (length p.segments) (length p.entries) t) p
    (with_train p t)

unfoldable pub extend_all : Limits → Plan → List Addition → Plan
extend_all l p [] = p
extend_all l p (a ∷ rest) = extend_all l (extend l p a) rest

unfoldable pub accepted : Limits → List Addition → Plan
accepted l additions = extend_all l empty_plan additions

-- ---- a plan as a list of additions: each segment, and after it the trains of its entries, in order; an entry at no segment is left out

unfoldable pub trains_of : ℕ → List Entry → List Addition
trains_of k [] = []
trains_of k (e ∷ es) = cond (eqb e.segment k) (train e.train ∷ trains_of k es) (trains_of k es)

unfoldable pub listed_from : ℕ → List Segment → List Entry → List Addition
listed_from k [] es = []
listed_from k (s ∷ ss) es = segment s ∷ (trains_of k es ++ listed_from (k + 1) ss es)

unfoldable pub listed : Plan → List Addition
listed p = listed_from 0 p.segments p.entries
