-- The levels of a study's entries and a period's result, over lists, for a choice of close marks (01, "The steps").
-- Assumes nothing.
use Rattle.std.specs.Prelude.{Bool, true, false, cond, ◌&&◌, ◌||◌, List, [], ◌∷◌, map, ℕ, suc, ◌+◌, ◌<◌, eqb, ℤ, get_or, length}
use Rattle.decibel.specs.Round.{meets}
use Rattle.decibel.specs.declared.Level.{Level}
use Rattle.decibel.specs.declared.Level.TheVariants.{Silent, Figure}
use Rattle.energy.specs.declared.Total.{Total}
use Rattle.energy.specs.Total.{total_by, TotalMark, silent_cell}
use Rattle.energy.specs.Mark.{total_mark}
use Rattle.figures.specs.declared.Segment.{Segment}
use Rattle.figures.specs.declared.Period.{Period}
use Rattle.figures.specs.declared.Period.TheVariants.{Day, Night}
use Rattle.propagation.specs.Ground.{SegmentMark}
use Rattle.propagation.specs.Propagation.{propagation_of}
use Rattle.emission.specs.Emission.{emission_of}
use Rattle.request.specs.Entry.{level_by}
use Rattle.study.specs.declared.Entry.{Entry}
use Rattle.request.specs.declared.PeriodResult.{PeriodResult}
use Rattle.study.specs.Plan.{Plan, segment_at}

-- ---- marks: one for each segment, which serves cells, totals and close counts of both periods, and one for each period's total

pub record Marks : Type 0 where
  pub grounds : List Bool
  pub day : Bool
  pub night : Bool

abbrev pub mark_at : Marks → ℕ → Bool
mark_at m k = get_or m.grounds k false

abbrev pub total_mark_in : Period → Marks → Bool
total_mark_in Day m = m.day
total_mark_in Night m = m.night

-- ---- levels

-- an entry's level in a period
unfoldable pub level_at : Period → Plan → Marks → Entry → Level
level_at p plan m e = level_by p (segment_at plan e.segment) (mark_at m e.segment) e.train

-- the levels of all entries, in their order
unfoldable pub levels_of : Period → Plan → Marks → List Level
levels_of p plan m = map (level_at p plan m) plan.entries

-- the figures of those that are not silent
unfoldable pub figures : List Level → List ℤ
figures [] = []
figures (Silent ∷ ls) = figures ls
figures (Figure r ∷ ls) = r ∷ figures ls

-- a level as a working cell (01's term) holds it
unfoldable pub cell_of : Level → ℤ
cell_of Silent = silent_cell
cell_of (Figure r) = r

-- ---- the close count (01's term): marked segments that have trains in the period, and one for a marked total

unfoldable pub is_heard : Level → Bool
is_heard Silent = false
is_heard (Figure r) = true

-- an entry of segment k has a level in the period: of an accepted train, that it has trains there
unfoldable pub heard_at : Period → ℕ → List Entry → Bool
heard_at p k [] = false
heard_at p k (e ∷ es) = (eqb e.segment k && is_heard (emission_of p e.train)) || heard_at p k es

-- over the segments from place k on
unfoldable pub close_from : Period → Plan → Marks → ℕ → List Segment → ℕ
close_from p plan m k [] = 0
close_from p plan m k (s ∷ ss) = cond (mark_at m k && heard_at p k plan.entries) 1 0 + close_from p plan m (suc k) ss

unfoldable pub close_segments : Period → Plan → Marks → ℕ
close_segments p plan m = close_from p plan m 0 plan.segments

-- ---- the period's result

-- the specified levels (memorandum, paragraph 3), whole decibels: 68 by day, 63 by night
unfoldable pub limit_of : Period → ℕ
limit_of Day = 68
limit_of Night = 63

-- the verdict; silent is never met
unfoldable pub met_by : Period → Level → Bool
met_by p Silent = false
met_by p (Figure r) = meets (limit_of p) r

unfoldable pub result_from : Period → Total → ℕ → PeriodResult
result_from p t close = record { level = t.level; close = close + cond t.close 1 0; met = met_by p t.level }

unfoldable pub result_by : Period → Plan → Marks → PeriodResult
result_by p plan m = result_from p (total_by (total_mark_in p m) (figures (levels_of p plan m))) (close_segments p plan m)

-- ---- which marks 01 allows

pub record MarksAllowed (plan : Plan) (m : Marks) : Type 0 where
  pub grounds : (k : ℕ) → k < length plan.segments → SegmentMark (segment_at plan k) (mark_at m k)
  pub day : TotalMark (figures (levels_of Day plan m)) m.day
  pub night : TotalMark (figures (levels_of Night plan m)) m.night

-- ---- the program's own marks, by name

unfoldable pub ground_marks : Plan → Marks
ground_marks plan = record { grounds = map (λ (s : Segment). (propagation_of s).close) plan.segments; day = false; night = false }

unfoldable pub own_marks : Plan → Marks
own_marks plan =
    let g = ground_marks plan in
    record { grounds = g.grounds; day = total_mark (figures (levels_of Day plan g)); night = total_mark (figures (levels_of Night plan g)) }
