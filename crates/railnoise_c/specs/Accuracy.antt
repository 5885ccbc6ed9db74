-- Demand 3 for what C gets: how far the level of each period lies from the bare level of what the text alone has accepted.
-- Assumes nothing.
use Rattle.std.specs.Prelude.{◌≡◌, true, List, ℕ, ◌≤◌, ℤ, length, Ok}
use Rattle.figures.specs.declared.Period.{Period}
use Rattle.figures.specs.declared.Period.TheVariants.{Day, Night}
use Rattle.study.specs.Plan.{Plan}
use Rattle.study.specs.Add.{ours}
use Rattle.study.specs.Run.{accepted}
use Rattle.request.specs.Request.{cells_needed}
use Rattle.request.specs.Accuracy.{has_trains}
use Rattle.text.specs.Text.{read_text}
use Rattle.text.specs.Additions.{additions_of}
use Rattle.c_values.specs.declared.RailnoisePeriod.{RailnoisePeriod}
use Rattle.c_values.specs.Accuracy.{PeriodAccurate}
use Rattle.railnoise_c.specs.declared.RailnoiseAnswer.{RailnoiseAnswer}
use Rattle.railnoise_c.specs.Exported.{Called}

-- the segments and entries of an accepted text, by its lines alone: 01's "list of its segments and entries"
unfoldable pub listed_in : List ℕ → Plan
listed_in text = accepted ours (additions_of ours text)

-- the part of an answer for a period
unfoldable pub period_in : Period → RailnoiseAnswer → RailnoisePeriod
period_in Day r = r.day
period_in Night r = r.night

-- no refusal and no line at fault, and each period in which an entry has trains is accurate
pub record AnswerAccurate (plan : Plan) (r : RailnoiseAnswer) : Type 0 where
  pub refusal : r.refusal ≡ 0
  pub line : r.line ≡ 0
  pub period : (p : Period) → has_trains p plan.entries ≡ true → PeriodAccurate p plan (period_in p r)

-- Demand 3 for a call from C, of whatever `railnoise_levels` ensures: for every text that is accepted and cells that suffice, whatever they held.
-- Proved as `call_accurate` in proofs/Accuracy.antt
abbrev pub CallAccurate : Type 0
CallAccurate =
    (text : List ℕ) (before after : List ℤ) (r : RailnoiseAnswer) → Called text before after r →
    (read_text ours text).check ≡ Ok tt → cells_needed (length (listed_in text).entries) ≤ length before →
    AnswerAccurate (listed_in text) r
