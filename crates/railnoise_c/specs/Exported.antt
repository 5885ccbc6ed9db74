-- What the exported function hands to C, and what the caller's cells then hold (01, "Turned back for the study's condition" and "The text").
-- Assumes nothing.
use Rattle.std.specs.Prelude.{◌≡◌, List, ℕ, ℤ, length, Ok, Err}
use Rattle.figures.specs.Refusal.{number_of}
use Rattle.c_values.specs.Values.{line_value, exported_period}
use Rattle.study.specs.Add.{ours}
use Rattle.request.specs.Levels.{own_marks, MarksAllowed}
use Rattle.text.specs.Text.{read_text}
use Rattle.request.specs.Request.{silent_result}
use Rattle.text.specs.Answer.{TextAnswer, cells_with, plan_in, text_answer}
use Rattle.railnoise_c.specs.declared.RailnoiseAnswer.{RailnoiseAnswer}

-- ---- the values of C's structs

-- both periods, with refusal and line 0; or 01's number of the refusal, with the line of the text that it concerns, 0 where none, and silence
unfoldable pub exported : TextAnswer → RailnoiseAnswer
exported (Ok both) = record { refusal = 0; line = 0; day = exported_period both.day; night = exported_period both.night }
exported (Err f) =
    record { refusal = number_of f.refusal; line = line_value f.line; day = exported_period silent_result; night = exported_period silent_result }

-- the whole of a call: by the program's own marks, and 01 allows these
pub record Called (text : List ℕ) (before after : List ℤ) (r : RailnoiseAnswer) : Type 0 where
  pub answer : r ≡ exported (text_answer text (length before))
  pub cells : after ≡ cells_with (read_text ours text).check (plan_in text) before
  pub allowed : MarksAllowed (plan_in text) (own_marks (plan_in text))
