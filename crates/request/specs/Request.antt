-- The request for levels (01, "Turned back for the study's condition"): 23, then 24, else the levels in the cells and the two periods' results.
-- Assumes nothing.
use Rattle.std.specs.Prelude.{◌≡◌, Bool, false, cond, ◌&&◌, ◌||◌, List, [], ◌∷◌, ◌++◌, map, ℕ, zero, suc, ◌+◌, eqb, leb, ltb, ℤ, pos, negsuc, length, take, drop, get_or, Result, Ok, Err}
use Rattle.std.specs.Int.Signed.{le_z}
use Rattle.decibel.specs.declared.Level.TheVariants.{Silent}
use Rattle.energy.specs.Total.{heard, TotalMark}
use Rattle.energy.specs.Mark.{total_mark, total_of}
use Rattle.figures.specs.declared.Train.{Train}
use Rattle.figures.specs.declared.Period.{Period}
use Rattle.figures.specs.declared.Periods.{Periods}
use Rattle.figures.specs.Periods.{in_period}
use Rattle.propagation.specs.declared.Propagation.{Propagation}
use Rattle.figures.specs.declared.Period.TheVariants.{Day, Night}
use Rattle.figures.specs.declared.Refusal.{Refusal}
use Rattle.figures.specs.declared.Refusal.TheVariants.{NoEntry, FewCells}
use Rattle.figures.specs.Refusal.{unless, Check, answered}
use Rattle.figures.specs.Rules.{lowest_number}
use Rattle.emission.specs.Emission.{raised, emission_of}
use Rattle.study.specs.declared.Entry.{Entry}
use Rattle.request.specs.declared.PeriodResult.{PeriodResult}
use Rattle.study.specs.Add.{ours}
use Rattle.study.specs.Plan.{Plan}
use Rattle.request.specs.Levels.{Marks, levels_of, cell_of, result_from, result_by, MarksAllowed, own_marks}

-- the working cells that t entries need
abbrev pub cells_needed : ℕ → ℕ
cells_needed t = t + t

-- of so many entries that need so many of n working cells: 23 without an entry, then 24 with too few cells
unfoldable pub request_check : ℕ → ℕ → ℕ → Check
request_check entries needed n = unless (ltb 0 entries) NoEntry (unless (leb needed n) FewCells (Ok tt))

-- the same by 01's numbers
unfoldable pub request_number : ℕ → ℕ → ℕ → ℕ
request_number entries needed n = lowest_number ((23, ltb 0 entries) ∷ (24, leb needed n) ∷ [])

unfoldable pub levels_check : Plan → ℕ → Check
levels_check plan n = request_check (length plan.entries) (cells_needed (length plan.entries)) n

unfoldable pub levels_number : Plan → ℕ → ℕ
levels_number plan n = request_number (length plan.entries) (cells_needed (length plan.entries)) n

-- the day's levels, then the night's, in entry order, then what further cells held; on a refusal the cells as they were
unfoldable pub laid : Check → List ℤ → List ℤ → List ℤ → List ℤ
laid (Ok _) day night cells = day ++ (night ++ drop (length day + length night) cells)
laid (Err r) day night cells = cells

-- where a period's levels begin among them
unfoldable pub first_cell : Period → ℕ → ℕ
first_cell Day entries = 0
first_cell Night entries = entries

unfoldable pub cells_by : Check → Plan → Marks → List ℤ → List ℤ
cells_by check plan m cells = laid check (map cell_of (levels_of Day plan m)) (map cell_of (levels_of Night plan m)) cells

abbrev pub silent_result : PeriodResult
silent_result = record { level = Silent; close = 0; met = false }

-- a refusal, or both periods' results
abbrev pub Answer : Type 0
Answer = Result (Periods PeriodResult) Refusal

unfoldable pub answer_of : Check → PeriodResult → PeriodResult → Answer
answer_of check day night = answered check (record { day = day; night = night })

abbrev pub answer_by : Check → Plan → Marks → Answer
answer_by check plan m = answer_of check (result_by Day plan m) (result_by Night plan m)

-- with some marks, what the cells hold afterwards and what is answered
pub record AnsweredBy (plan : Plan) (m : Marks) (before after : List ℤ) (r : Answer) : Type 0 where
  pub cells : after ≡ cells_by (levels_check plan (length before)) plan m before
  pub answer : r ≡ answer_by (levels_check plan (length before)) plan m

-- what the request ensures: the answer by the program's own marks, and that 01 allows these
pub record Answered (plan : Plan) (before after : List ℤ) (r : Answer) : Type 0 where
  pub by : AnsweredBy plan (own_marks plan) before after r
  pub allowed : MarksAllowed plan (own_marks plan)

-- the part of an answer for a period, silent in a refusal
unfoldable pub result_in : Period → Answer → PeriodResult
result_in p (Ok both) = in_period p both
result_in p (Err r) = silent_result

-- ---- the same from levels as computed: the cell of each entry by day and by night, the place of its segment, and the segments' close marks

-- an entry's cells, from what its segment adds
abbrev pub cell_in : Period → ℤ → Train → ℤ
cell_in p tenths t = cell_of (raised tenths (emission_of p t))

unfoldable pub entry_cells : ℤ → Train → Periods ℤ
entry_cells tenths t = record { day = cell_in Day tenths t; night = cell_in Night tenths t }

abbrev pub tenths_of : List Propagation → List ℤ
tenths_of added = map (λ (a : Propagation). a.tenths) added

abbrev pub marks_of : List Propagation → List Bool
marks_of added = map (λ (a : Propagation). a.close) added

abbrev pub places_of : List Entry → List ℕ
places_of es = map (λ (e : Entry). e.segment) es

-- an entry's cell, and those of all entries
abbrev pub cell_from : Period → List ℤ → Entry → ℤ
cell_from p tenths e = cell_in p (get_or tenths e.segment (pos 0)) e.train

abbrev pub cells_from : Period → List Propagation → List Entry → List ℤ
cells_from p added es = map (cell_from p (tenths_of added)) es

-- some entry of segment k has a level: one of -200 dB or more, which no silent cell holds
unfoldable pub sounds_at : ℕ → List ℕ → List ℤ → Bool
sounds_at k [] cells = false
sounds_at k (e ∷ es) [] = false
sounds_at k (e ∷ es) (c ∷ cs) = (eqb e k && le_z (negsuc 1999) c) || sounds_at k es cs

-- how many numbers below n pass a test
unfoldable pub count_to : (ℕ → Bool) → ℕ → ℕ
count_to f zero = 0
count_to f (suc n) = count_to f n + cond (f n) 1 0

-- a period's result by the program's own mark of the total. Levels past the 96th are not heard, and segments past the 24th not counted
unfoldable pub period_from : Period → List ℤ → List ℕ → List Bool → PeriodResult
period_from p cells places close =
    let levels = take ours.entries cells in
    result_from p (total_of (heard levels)) (count_to (λ k. get_or close k false && sounds_at k places levels) ours.segments)

-- that 01 allows the program's own mark of such levels' total, of which the first 96 are heard
abbrev pub TotalAllowed : List ℤ → Type 0
TotalAllowed cells = let levels = heard (take ours.entries cells) in TotalMark levels (total_mark levels)

-- levels in the cells from a place on; without room for all of them the cells as they were
unfoldable pub written : List ℤ → List ℤ → ℕ → List ℤ
written levels cells at = cond (leb (at + length levels) (length cells)) (take at cells ++ levels ++ drop (at + length levels) cells) cells

-- the check of so many cells
abbrev pub check_from : List ℤ → List ℤ → ℕ → Check
check_from day night n = request_check (length day) (length day + length night) n

-- the answer, the cells afterwards, and that 01 allows the mark of each total
pub record AnsweredFrom (ds ns : List ℤ) (places : List ℕ) (close : List Bool) (before after : List ℤ) (r : Answer) : Type 0 where
  pub cells : after ≡ laid (check_from ds ns (length before)) ds ns before
  pub answer : r ≡ answer_of (check_from ds ns (length before)) (period_from Day ds places close) (period_from Night ns places close)
  pub day : TotalAllowed ds
  pub night : TotalAllowed ns
