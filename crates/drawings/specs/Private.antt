-- What contracts of this crate's private functions cite: what one text gives, and what two give together.
-- Assumes nothing.
use Rattle.std.specs.Prelude.{◌≡◌, cond, List, ◌++◌, map, ℕ, ◌+◌, ◌-◌, ◌≤◌, leb, ℤ, length, take, Ok}
use Rattle.std.proofs.Math.Seq.{paste}
use Rattle.energy.specs.declared.Total.{Total}
use Rattle.energy.specs.Total.{heard}
use Rattle.energy.specs.Mark.{total_of}
use Rattle.figures.specs.declared.Period.{Period}
use Rattle.figures.specs.declared.Period.TheVariants.{Day, Night}
use Rattle.figures.specs.declared.Refusal.TheVariants.{FewCells}
use Rattle.figures.specs.Periods.{in_period}
use Rattle.figures.specs.Refusal.{Check, unless, first_refused}
use Rattle.study.specs.Plan.{Plan}
use Rattle.study.specs.Add.{ours}
use Rattle.request.specs.declared.PeriodResult.{PeriodResult}
use Rattle.request.specs.Levels.{own_marks, levels_of, cell_of, close_segments, result_from}
use Rattle.request.specs.Request.{Answer, cells_needed, laid, answer_of}
use Rattle.merging.specs.Merge.{limits_check}
use Rattle.text.specs.Text.{read_text}
use Rattle.text.specs.Answer.{plan_in}
use Rattle.drawings.specs.declared.Sizes.{Sizes}
use Rattle.drawings.specs.declared.Part.{Part}
use Rattle.drawings.specs.declared.Drawing.{Drawing}

-- the total of the levels in some cells, and the marks that it adds to a close count
abbrev pub total_in : List ℤ → Total
total_in cells = total_of (heard (take ours.entries cells))

abbrev pub total_marks : List ℤ → ℕ
total_marks cells = cond (total_in cells).close 1 0

-- ---- one text

-- as many segments and entries as an accepted text has, and that a text is not accepted
pub record Announced (text : List ℕ) (r : Sizes) : Type 0 where
  pub few : r.entries ≤ ours.entries
  pub segments : (read_text ours text).check ≡ Ok tt → r.segments ≡ length (plan_in text).segments
  pub entries : (read_text ours text).check ≡ Ok tt → r.entries ≡ length (plan_in text).entries

abbrev pub Unannounced : List ℕ → Type 0
Unannounced text = (read_text ours text).check ≡ Ok tt → ⊥

-- a period's levels with the segments that are marked without the total's own mark, from the close count that has it
pub record PartOf (count : ℕ) (cells : List ℤ) (r : Part) : Type 0 where
  pub levels : r.levels.now ≡ cells
  pub close : r.close ≡ count - total_marks cells

-- what was worked out of a plan
pub record Given (plan : Plan) (r : Drawing) : Type 0 where
  pub segments : r.segments ≡ length plan.segments
  pub close : (p : Period) → (in_period p r.parts).close ≡ close_segments p plan (own_marks plan)
  pub levels : (p : Period) → (in_period p r.parts).levels.now ≡ map cell_of (levels_of p plan (own_marks plan))

-- an accepted text gives that of its plan
pub record TextGives (text : List ℕ) (r : Drawing) : Type 0 where
  pub accepted : (read_text ours text).check ≡ Ok tt
  pub given : Given (plan_in text) r

-- ---- two texts

-- no more segments than two texts may have
abbrev pub most_close : ℕ
most_close = ours.segments + ours.segments

-- a period's levels of both, the first text's before the second's, and their result
abbrev pub both_levels : Part → Part → List ℤ
both_levels one two = one.levels.now ++ two.levels.now

abbrev pub both_result : Period → Part → Part → PeriodResult
both_result p one two = result_from p (total_in (both_levels one two)) (one.close + two.close)

-- with the levels in the cells from a place on
pub record PeriodLaid (p : Period) (one two : Part) (at : ℕ) (before after : List ℤ) (r : PeriodResult) : Type 0 where
  pub cells : after ≡ paste before at (both_levels one two) (length (both_levels one two))
  pub result : r ≡ both_result p one two

-- no more than a study may hold, and as many levels by day as by night
pub record Small (r : Drawing) : Type 0 where
  pub segments : r.segments ≤ ours.segments
  pub entries : length r.parts.day.levels.now ≤ ours.entries
  pub nights : length r.parts.night.levels.now ≡ length r.parts.day.levels.now
  pub day : r.parts.day.close ≤ ours.segments
  pub night : r.parts.night.close ≤ ours.segments

-- the refusal of both together: 21, 22 or 24
abbrev pub entries_together : Drawing → Drawing → ℕ
entries_together one two = length one.parts.day.levels.now + length two.parts.day.levels.now

abbrev pub limits_together : Drawing → Drawing → Check
limits_together one two = limits_check ours (one.segments + two.segments) (entries_together one two)

unfoldable pub check_together : Drawing → Drawing → ℕ → Check
check_together one two n = first_refused (limits_together one two) (unless (leb (cells_needed (entries_together one two)) n) FewCells (Ok tt))

abbrev pub levels_together : Period → Drawing → Drawing → List ℤ
levels_together p one two = both_levels (in_period p one.parts) (in_period p two.parts)

abbrev pub result_together : Period → Drawing → Drawing → PeriodResult
result_together p one two = both_result p (in_period p one.parts) (in_period p two.parts)

pub record Together (one two : Drawing) (before after : List ℤ) (r : Answer) : Type 0 where
  pub cells : after ≡ laid (check_together one two (length before)) (levels_together Day one two) (levels_together Night one two) before
  pub answer : r ≡ answer_of (check_together one two (length before)) (result_together Day one two) (result_together Night one two)
