-- The highest speed at which the trains of an entry may pass the window (02, L6): an entry, a period and a limit in whole decibels.
-- Assumes nothing.
use Rattle.std.specs.Prelude.{◌≡◌, Bool, true, ◌&&◌, List, [], ◌∷◌, ℕ, ◌-◌, leb, ltb, ℤ, pos, length, get_or, set, Result, Ok, Err}
use Rattle.std.specs.Int.Signed.{lt_z}
use Rattle.decibel.specs.Greatest.{greatest}
use Rattle.decibel.specs.Round.{whole_decibels}
use Rattle.decibel.specs.declared.Level.{Level}
use Rattle.decibel.specs.declared.Level.TheVariants.{Silent, Figure}
use Rattle.energy.specs.Total.{heard, TotalMark}
use Rattle.energy.specs.Mark.{total_mark, total_of}
use Rattle.figures.specs.declared.Train.{Train}
use Rattle.figures.specs.declared.Period.{Period}
use Rattle.figures.specs.declared.Refusal.TheVariants.{EntryNumber, NoSpeed}
use Rattle.figures.specs.declared.Refusal.{Refusal}
use Rattle.figures.specs.Refusal.{unless, Check, answered}
use Rattle.figures.specs.Rules.{most_speed, lowest_number}
use Rattle.emission.specs.Speed.{least_counted}
use Rattle.study.specs.declared.Entry.{Entry}
use Rattle.study.specs.Plan.{Plan, no_entry}
use Rattle.request.specs.Levels.{result_by, own_marks, MarksAllowed}
use Rattle.request.specs.Request.{cell_in}

-- ---- "all else being kept"

-- the same train at another speed, and an entry with it
abbrev pub at_speed : ℕ → Train → Train
at_speed v t = record { row = t.row; speed = pos v; vehicles = t.vehicles; day = t.day; night = t.night }

abbrev pub entry_at_speed : ℕ → Entry → Entry
entry_at_speed v e = record { segment = e.segment; train = at_speed v e.train }

-- the plan with the entry at place i, from 0, at another speed
unfoldable pub with_speed : Plan → ℕ → ℕ → Plan
with_speed plan i v = record { segments = plan.segments; entries = set plan.entries i (entry_at_speed v (get_or plan.entries i no_entry)) }

-- ---- "stays below the limit"

-- "the program's own total for that period"
unfoldable pub own_total : Period → Plan → Level
own_total p plan = (result_by p plan (own_marks plan)).level

-- "rounded to whole decibels"; "a silent total counts as below"
unfoldable pub stays_below : ℤ → Level → Bool
stays_below limit Silent = true
stays_below limit (Figure r) = lt_z (whole_decibels r) limit

-- ---- the answer

-- "the highest speed from 20 to 300 km/h" at which a total that goes by the speed stays below the limit, 0 where there is none
unfoldable pub highest_below : ℤ → (ℕ → Level) → ℕ
highest_below limit total = greatest (λ v. leb least_counted v && stays_below limit (total v)) most_speed

-- of so many entries, counted from 1: 25 for another number, then 26 without a speed
unfoldable pub speed_check : ℕ → ℕ → ℕ → Check
speed_check entry entries speed = unless (leb 1 entry && leb entry entries) EntryNumber (unless (ltb 0 speed) NoSpeed (Ok tt))

-- the same by 02's numbers
unfoldable pub speed_number : ℕ → ℕ → ℕ → ℕ
speed_number entry entries speed = lowest_number ((25, leb 1 entry && leb entry entries) ∷ (26, ltb 0 speed) ∷ [])

-- a refusal, or the speed
abbrev pub SpeedAnswer : Type 0
SpeedAnswer = Result ℕ Refusal

abbrev pub speed_by : Check → ℕ → SpeedAnswer
speed_by check v = answered check v

-- the speed, and 0 with a refusal, whatever is told with it: as C is handed it
unfoldable pub speed_of : {F : Type 0} → Result ℕ F → ℕ
speed_of (Ok v) = v
speed_of (Err f) = 0

abbrev pub answer_at : ℕ → ℕ → ℕ → SpeedAnswer
answer_at entry entries v = speed_by (speed_check entry entries v) v

-- of a plan, its entries counted from 1
unfoldable pub highest_in : Plan → ℕ → Period → ℤ → ℕ
highest_in plan entry p limit = highest_below limit (λ v. own_total p (with_speed plan (entry - 1) v))

unfoldable pub speed_answer : Plan → ℕ → Period → ℤ → SpeedAnswer
speed_answer plan entry p limit = answer_at entry (length plan.entries) (highest_in plan entry p limit)

-- what the request ensures: the answer by the program's own marks, and that 01 allows these at every speed
pub record SpeedAnswered (plan : Plan) (entry : ℕ) (p : Period) (limit : ℤ) (r : SpeedAnswer) : Type 0 where
  pub answer : r ≡ speed_answer plan entry p limit
  pub allowed : (v : ℕ) → let at = with_speed plan (entry - 1) v in MarksAllowed at (own_marks at)

-- ---- the same from levels as computed: the cells of a period's entries, and of the entry in question what its segment adds, and its train

-- the levels that are heard of the cells, with that entry, at place i, at a speed
abbrev pub levels_with : Period → List ℤ → ℕ → ℤ → Train → ℕ → List ℤ
levels_with p cells i tenths t v = heard (set cells i (cell_in p tenths (at_speed v t)))

unfoldable pub highest_from : List ℤ → ℕ → ℤ → Train → Period → ℤ → ℕ
highest_from cells entry tenths t p limit = highest_below limit (λ v. (total_of (levels_with p cells (entry - 1) tenths t v)).level)

-- the answer, and that 01 allows the mark of each total
pub record SpeedAnsweredFrom (cells : List ℤ) (entry : ℕ) (tenths : ℤ) (t : Train) (p : Period) (limit : ℤ) (r : SpeedAnswer) : Type 0 where
  pub answer : r ≡ answer_at entry (length cells) (highest_from cells entry tenths t p limit)
  pub allowed : (v : ℕ) → let levels = levels_with p cells (entry - 1) tenths t v in TotalMark levels (total_mark levels)
