-- The breakdown of a study and of a text: which lines, in which order.
-- Assumes nothing.
use mathlib.Core.List.{flatten}
use Rattle.std.specs.Prelude.{◌≡◌, List, [], ◌∷◌, ◌++◌, ℕ, zero, suc, ◌+◌, ℤ, pos, length, get_or, replicate}
use Rattle.study.specs.declared.Entry.{Entry}
use Rattle.study.specs.Plan.{Plan, no_entry, segment_at}
use Rattle.request.specs.Levels.{MarksAllowed, own_marks}
use Rattle.request.specs.Request.{levels_check, cells_by}
use Rattle.text.specs.Answer.{plan_in}
use Rattle.report.specs.Report.{cells_lent, report_of, written}
use Rattle.breakdown.specs.declared.StudyBreakdown.{StudyBreakdown}
use Rattle.breakdown.specs.declared.TextBreakdown.{TextBreakdown}
use Rattle.breakdown.specs.Lines.{segment_parts, place_number, entry_parts}

-- the parts of what stands at the first n places, one place after another
unfoldable pub each_below : ℕ → (ℕ → List (List ℕ)) → List (List ℕ)
each_below zero parts = []
each_below (suc n) parts = each_below n parts ++ parts n

-- a line for each segment; the first has the number 1
abbrev pub segment_line : Plan → ℕ → List (List ℕ)
segment_line plan k = segment_parts (k + 1) (segment_at plan k)

unfoldable pub segments_parts : Plan → List (List ℕ)
segments_parts plan = each_below (length plan.segments) (segment_line plan)

-- what the request for levels leaves in so many cells: the day's levels, then the night's
unfoldable pub cells_of : Plan → List ℤ
cells_of plan = cells_by (levels_check plan cells_lent) plan (own_marks plan) (replicate cells_lent (pos 0))

abbrev pub entry_at : Plan → ℕ → Entry
entry_at plan k = get_or plan.entries k no_entry

abbrev pub cell_at : List ℤ → ℕ → ℤ
cell_at cells k = get_or cells k (pos 0)

-- a line for each train entry, with its own cells
abbrev pub entry_line : Plan → List ℤ → ℕ → List (List ℕ)
entry_line plan cells k =
    entry_parts (k + 1) (place_number (entry_at plan k).segment) (entry_at plan k).train (cell_at cells k) (cell_at cells (length plan.entries + k))

unfoldable pub entries_parts : Plan → List ℤ → List (List ℕ)
entries_parts plan cells = each_below (length plan.entries) (entry_line plan cells)

unfoldable pub study_parts : Plan → List (List ℕ)
study_parts plan = segments_parts plan ++ entries_parts plan (cells_of plan)

-- a text: the lines of its study, none where it is refused, then the report as the program writes it
unfoldable pub text_parts : List ℕ → List (List ℕ)
text_parts text = study_parts (plan_in text) ++ (report_of text ∷ [])

-- ---- as bytes

unfoldable pub segments_bytes : Plan → List ℕ
segments_bytes plan = flatten (segments_parts plan)

unfoldable pub entries_bytes : Plan → List ℤ → List ℕ
entries_bytes plan cells = flatten (entries_parts plan cells)

-- what is written of a breakdown
unfoldable pub study_bytes : StudyBreakdown → List ℕ
study_bytes b = segments_bytes b.study.now ++ entries_bytes b.study.now b.cells

unfoldable pub text_bytes : TextBreakdown → List ℕ
text_bytes b = flatten (study_parts b.study) ++ written b.outcome

-- what the breakdown of a study ensures: it is written as the study's parts one after another, and 01 allows the marks
pub record StudyBrokenDown (plan : Plan) (b : StudyBreakdown) : Type 0 where
  pub bytes : study_bytes b ≡ flatten (study_parts plan)
  pub allowed : MarksAllowed plan (own_marks plan)

-- and that of a text
pub record BrokenDown (text : List ℕ) (b : TextBreakdown) : Type 0 where
  pub bytes : text_bytes b ≡ flatten (text_parts text)
  pub allowed : MarksAllowed (plan_in text) (own_marks (plan_in text))
