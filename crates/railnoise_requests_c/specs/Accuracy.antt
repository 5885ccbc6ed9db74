-- Demand 3 for what C gets of two texts: how far the level of each period lies from the bare level of both texts' lists, joined.
-- Assumes nothing.
use Rattle.std.specs.Prelude.{◌≡◌, true, List, ℕ, ◌≤◌, ℤ, length, Ok}
use Rattle.figures.specs.declared.Period.{Period}
use Rattle.figures.specs.declared.Period.TheVariants.{Day, Night}
use Rattle.study.specs.Plan.{Plan}
use Rattle.study.specs.Add.{ours}
use Rattle.study.specs.Run.{accepted}
use Rattle.request.specs.Request.{cells_needed}
use Rattle.request.specs.Accuracy.{has_trains}
use Rattle.text.specs.Text.{read_text}
use Rattle.text.specs.Additions.{additions_of}
use Rattle.merging.specs.Joined.{joined}
use Rattle.c_values.specs.declared.RailnoisePeriod.{RailnoisePeriod}
use Rattle.c_values.specs.Accuracy.{PeriodAccurate}
use Rattle.railnoise_requests_c.specs.declared.RailnoiseMergedAnswer.{RailnoiseMergedAnswer}
use Rattle.railnoise_requests_c.specs.Merged.{MergedCalled}

-- the segments and entries of two accepted texts, by their lines alone
unfoldable pub both_in : List ℕ → List ℕ → Plan
both_in first second = joined (accepted ours (additions_of ours first)) (accepted ours (additions_of ours second))

-- the part of an answer for a period
unfoldable pub merged_period_in : Period → RailnoiseMergedAnswer → RailnoisePeriod
merged_period_in Day r = r.day
merged_period_in Night r = r.night

-- no refusal, and each period in which an entry has trains is accurate
pub record MergedAccurate (plan : Plan) (r : RailnoiseMergedAnswer) : Type 0 where
  pub refusal : r.refusal ≡ 0
  pub text : r.text ≡ 0
  pub line : r.line ≡ 0
  pub period : (p : Period) → has_trains p plan.entries ≡ true → PeriodAccurate p plan (merged_period_in p r)

-- of whatever `railnoise_merged_levels` ensures: for every two texts that are accepted and few enough, and cells that suffice, whatever they held.
-- Proved as `merged_call_accurate` in proofs/Accuracy.antt
abbrev pub MergedCallAccurate : Type 0
MergedCallAccurate =
    (first second : List ℕ) (before after : List ℤ) (r : RailnoiseMergedAnswer) → MergedCalled first second before after r →
    (read_text ours first).check ≡ Ok tt → (read_text ours second).check ≡ Ok tt → let plan = both_in first second in
    length plan.segments ≤ ours.segments → length plan.entries ≤ ours.entries → cells_needed (length plan.entries) ≤ length before →
    MergedAccurate plan r
