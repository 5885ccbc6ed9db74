-- Trains that crawl (02, L4; the memorandum's footnote 4): which speeds are refused, how each other one counts, and that a study is answered as if 20 km/h were
-- typed for each lower speed. The figures in these comments are `least_speed`, `most_speed` and `least_counted`. Proved as `slow_trains` in proofs/SlowTrains.antt.
-- Assumes nothing.
use Rattle.std.specs.Prelude.{◌≡◌, ◌⊎◌, ◌↔◌, Bool, true, cond, ◌&&◌, List, [], ◌∷◌, ◌++◌, map, ◌-◌, ℤ, pos, length, ◌≤ℤ◌, ◌<ℤ◌, Ok}
use Rattle.std.specs.Int.Signed.{le_z, lt_z}
use Rattle.figures.specs.declared.Segment.{Segment}
use Rattle.figures.specs.declared.Train.{Train}
use Rattle.figures.specs.declared.Period.{Period}
use Rattle.figures.specs.Refusal.{check_number}
use Rattle.figures.specs.Rules.{least_speed, most_speed, row_kept, train_check}
use Rattle.emission.specs.Speed.{least_counted, counted_speed}
use Rattle.study.specs.declared.Entry.{Entry}
use Rattle.study.specs.Plan.{Plan}
use Rattle.study.specs.Add.{ours, train_answer}
use Rattle.study.specs.Run.{Addition, segment, train, run}
use Rattle.request.specs.Entry.{level_by, entry_fence}
use Rattle.request.specs.Levels.{Marks, levels_of, result_by, own_marks}
use Rattle.request.specs.Accuracy.{Bare}

-- below 1 or above 300 km/h
abbrev pub SpeedOut : Train → Type 0
SpeedOut t = (t.speed <ℤ pos least_speed) ⊎ (pos most_speed <ℤ t.speed)

-- from 1 to 19 km/h
unfoldable pub is_slow : Train → Bool
is_slow t = le_z (pos least_speed) t.speed && lt_z t.speed (pos least_counted)

-- the same train at 20 km/h
abbrev pub at_least_counted : Train → Train
at_least_counted t = record { row = t.row; speed = pos least_counted; vehicles = t.vehicles; day = t.day; night = t.night }

-- a slow train at 20 km/h, every other one as it is
unfoldable pub as_counted : Train → Train
as_counted t = cond (is_slow t) (at_least_counted t) t

-- the same of what is added, of an entry, and of all that a study holds
unfoldable pub addition_as_counted : Addition → Addition
addition_as_counted (segment s) = segment s
addition_as_counted (train t) = train (as_counted t)

abbrev pub entry_as_counted : Entry → Entry
entry_as_counted e = record { segment = e.segment; train = as_counted e.train }

abbrev pub plan_as_counted : Plan → Plan
plan_as_counted plan = record { segments = plan.segments; entries = map entry_as_counted plan.entries }

pub record SlowTrains : Type 0 where
  -- of a train's own lines 9 is given exactly where the row, which comes first, is in order and the speed is below 1 or above 300
  pub refused : (t : Train) → (check_number (train_check t) ≡ 9) ↔ ((row_kept t ≡ true) × SpeedOut t)
  -- from 1 to 19 a speed counts as 20, and from 20 on as typed
  pub slow : (t : Train) → is_slow t ≡ true → counted_speed t ≡ least_counted
  pub fast : (t : Train) → pos least_counted ≤ℤ t.speed → pos (counted_speed t) ≡ t.speed
  -- a study keeps the speed as typed: an accepted train is its last entry, figure by figure
  pub kept : (additions : List Addition) (t : Train) → let plan = run ours additions in
      train_answer ours (length plan.segments) (length plan.entries) t ≡ Ok tt →
      (run ours (additions ++ (train t ∷ []))).entries ≡ plan.entries ++ (record { segment = length plan.segments - 1; train = t } ∷ [])
  -- with 20 typed in place of 1 to 19 a train is judged as it was
  pub check : (t : Train) → train_check (as_counted t) ≡ train_check t
  -- its entry has the level that it had, in each period, in every segment and by any mark, and the fence
  pub level : (p : Period) (s : Segment) (mark : Bool) (t : Train) → level_by p s mark (as_counted t) ≡ level_by p s mark t
  pub fence : (p : Period) (s : Segment) (t : Train) → entry_fence p s (as_counted t) ≡ entry_fence p s t
  -- a list of additions makes the study that it made, but for those speeds: what was refused is refused, and nothing else is
  pub typed : (additions : List Addition) → run ours (map addition_as_counted additions) ≡ plan_as_counted (run ours additions)
  -- and whatever a study holds, it has the levels that it had, the program's own marks, by any marks the results, and the bare level
  pub levels : (p : Period) (plan : Plan) (m : Marks) → levels_of p (plan_as_counted plan) m ≡ levels_of p plan m
  pub marks : (plan : Plan) → own_marks (plan_as_counted plan) ≡ own_marks plan
  pub result : (p : Period) (plan : Plan) (m : Marks) → result_by p (plan_as_counted plan) m ≡ result_by p plan m
  pub bare : (p : Period) (plan : Plan) (b : ℤ) → Bare p (plan_as_counted plan) b ↔ Bare p plan b
