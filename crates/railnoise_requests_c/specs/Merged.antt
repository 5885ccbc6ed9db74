-- What the exported function hands to C of two texts, and what the caller's cells then hold (02, L5).
-- Assumes nothing.
use Rattle.std.specs.Prelude.{◌≡◌, List, ℕ, ℤ, length, Ok, Err}
use Rattle.figures.specs.Refusal.{number_of}
use Rattle.request.specs.Levels.{own_marks, MarksAllowed}
use Rattle.request.specs.Request.{silent_result}
use Rattle.text.specs.Answer.{cells_with}
use Rattle.drawings.specs.Drawings.{MergedAnswer, merged_plan_in, merged_answer, texts_check}
use Rattle.c_values.specs.Values.{line_value, exported_period}
use Rattle.railnoise_requests_c.specs.declared.RailnoiseMergedAnswer.{RailnoiseMergedAnswer}

-- both periods, with refusal, text and line 0; or the number of the refusal with the text and the line that it concerns, and silence
unfoldable pub exported_merged : MergedAnswer → RailnoiseMergedAnswer
exported_merged (Ok both) = record { refusal = 0; text = 0; line = 0; day = exported_period both.day; night = exported_period both.night }
exported_merged (Err f) =
    record { refusal = number_of f.fault.refusal; text = f.text; line = line_value f.fault.line; day = exported_period silent_result; night = exported_period silent_result }

-- the whole of a call: by the program's own marks, and 01 allows these
pub record MergedCalled (first second : List ℕ) (before after : List ℤ) (r : RailnoiseMergedAnswer) : Type 0 where
  pub answer : r ≡ exported_merged (merged_answer first second (length before))
  pub cells : after ≡ cells_with (texts_check first second) (merged_plan_in first second) before
  pub allowed : MarksAllowed (merged_plan_in first second) (own_marks (merged_plan_in first second))
