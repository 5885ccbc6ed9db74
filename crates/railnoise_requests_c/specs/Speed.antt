-- What the exported function hands to C of a text, an entry of it, a period and a limit (02, L6).
-- Assumes nothing.
use Rattle.std.specs.Prelude.{◌≡◌, ◌⊎◌, Bool, true, cond, List, ℕ, ◌-◌, ◌≤◌, ℤ, Ok}
use Rattle.figures.specs.declared.Period.{Period}
use Rattle.figures.specs.declared.Period.TheVariants.{Day, Night}
use Rattle.figures.specs.Refusal.{check_number}
use Rattle.figures.specs.Rules.{least_speed, most_speed}
use Rattle.study.specs.Plan.{Plan}
use Rattle.study.specs.Add.{ours}
use Rattle.study.specs.Run.{accepted}
use Rattle.request.specs.Levels.{own_marks, MarksAllowed}
use Rattle.request.specs.Accuracy.{has_trains}
use Rattle.text.specs.Text.{read_text}
use Rattle.text.specs.Additions.{additions_of}
use Rattle.text.specs.Answer.{check_at, line_at, plan_in}
use Rattle.speeds.specs.Speeds.{with_speed, speed_of}
use Rattle.speeds.specs.Laws.{IsEntry, BelowAt, Highest, BareAt}
use Rattle.text_speeds.specs.TextSpeeds.{TextSpeed, text_speed}
use Rattle.c_values.specs.Values.{line_value}
use Rattle.railnoise_requests_c.specs.declared.RailnoiseSpeedAnswer.{RailnoiseSpeedAnswer}

-- the period that C's `night` asks for
unfoldable pub period_by : Bool → Period
period_by night = cond night Night Day

-- the speed, or the number of the refusal with the line that it concerns; `speed_of` says what stands beside a refusal
unfoldable pub exported_speed : TextSpeed → RailnoiseSpeedAnswer
exported_speed r = record { refusal = check_number (check_at r); line = line_value (line_at r); speed = speed_of r }

-- the whole of a call: by the program's own marks, and 01 allows these at every speed
pub record SpeedCalled (text : List ℕ) (entry : ℕ) (night : Bool) (limit : ℤ) (r : RailnoiseSpeedAnswer) : Type 0 where
  pub answer : r ≡ exported_speed (text_speed text entry (period_by night) limit)
  pub allowed : (v : ℕ) → let at = with_speed (plan_in text) (entry - 1) v in MarksAllowed at (own_marks at)

-- ---- what a caller can rely on beside the equation. Proved as `speed_calls` in proofs/SpeedCalls.antt

-- of what a text lists: the speed is the highest, every lower one from 1 km/h on is safe too, and demand 3 holds at each speed where an entry has trains
pub record SpeedSafe (plan : Plan) (entry : ℕ) (p : Period) (limit : ℤ) (speed : ℕ) : Type 0 where
  pub is_entry : IsEntry plan entry
  pub highest : Highest plan entry p limit speed
  pub lower : (w : ℕ) → least_speed ≤ w → w ≤ speed → BelowAt plan entry p limit w
  pub bare : has_trains p plan.entries ≡ true → (v : ℕ) → least_speed ≤ v → v ≤ most_speed → BareAt plan entry p limit v

-- 25 or 26, of an accepted text alone and so without a line
pub record OfAcceptedText (text : List ℕ) (r : RailnoiseSpeedAnswer) : Type 0 where
  pub accepted : (read_text ours text).check ≡ Ok tt
  pub line : r.line ≡ 0
  pub number : (r.refusal ≡ 25) ⊎ (r.refusal ≡ 26)

pub record SpeedCalls : Type 0 where
  -- without a refusal the speed is that of the text's own lines
  pub answered : (text : List ℕ) (entry : ℕ) (night : Bool) (limit : ℤ) (r : RailnoiseSpeedAnswer) → SpeedCalled text entry night limit r → r.refusal ≡ 0 →
      (r.line ≡ 0) × SpeedSafe (accepted ours (additions_of ours text)) entry (period_by night) limit r.speed
  -- a refusal is a text's own, or 25 or 26, with speed 0
  pub refused : (text : List ℕ) (entry : ℕ) (night : Bool) (limit : ℤ) (r : RailnoiseSpeedAnswer) → SpeedCalled text entry night limit r → (r.refusal ≡ 0 → ⊥) →
      (r.speed ≡ 0) × ((r.refusal ≤ 13) ⊎ OfAcceptedText text r)
