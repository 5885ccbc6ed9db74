-- A text, an entry of it, a period and a limit handed over together (02, L6): the text's refusals first, then 25, then 26.
-- Assumes nothing.
use Rattle.std.specs.Prelude.{◌≡◌, cond, List, ℕ, ◌-◌, ℤ, length, Result, Ok, Err, is_ok}
use Rattle.figures.specs.declared.Period.{Period}
use Rattle.figures.specs.Refusal.{Check}
use Rattle.study.specs.Plan.{Plan}
use Rattle.study.specs.Add.{ours}
use Rattle.request.specs.Levels.{own_marks, MarksAllowed}
use Rattle.text.specs.declared.Fault.{Fault}
use Rattle.text.specs.Text.{read_text}
use Rattle.text.specs.Answer.{refused_line, at_line, plan_in, text_number}
use Rattle.speeds.specs.Speeds.{with_speed, speed_number, highest_in, speed_answer}

-- a refusal with the line at fault, 0 where none is, or the speed
abbrev pub TextSpeed : Type 0
TextSpeed = Result ℕ Fault

-- from the check, the line and the plan of a reading: a refused text's refusal and line, else the request over its study. An accepted text's line is 0
unfoldable pub speed_with : Check → ℕ → Plan → ℕ → Period → ℤ → TextSpeed
speed_with (Ok _) line plan entry p limit = at_line line (speed_answer plan entry p limit)
speed_with (Err why) line plan entry p limit = refused_line why line

unfoldable pub text_speed : List ℕ → ℕ → Period → ℤ → TextSpeed
text_speed text entry p limit = let r = read_text ours text in speed_with r.check r.line r.study entry p limit

-- its number: the text's own come first
unfoldable pub text_speed_number : List ℕ → ℕ → Period → ℤ → ℕ
text_speed_number text entry p limit =
    cond (is_ok (read_text ours text).check) (speed_number entry (length (plan_in text).entries) (highest_in (plan_in text) entry p limit)) (text_number text)

-- the whole of it: by the program's own marks, and 01 allows these at every speed
pub record TextSpeedAnswered (text : List ℕ) (entry : ℕ) (p : Period) (limit : ℤ) (r : TextSpeed) : Type 0 where
  pub answer : r ≡ text_speed text entry p limit
  pub allowed : (v : ℕ) → let at = with_speed (plan_in text) (entry - 1) v in MarksAllowed at (own_marks at)
