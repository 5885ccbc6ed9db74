-- What private contracts alone cite: the trains of a text, and what an entry's level tells of its segment.
-- Assumes nothing.
use Rattle.std.specs.Prelude.{◌≡◌, List, map, ℕ, ◌^◌, ◌<◌, ℤ, length, slice_get, Option, Ok}
use Rattle.std.specs.Int.Signed.{mag}
use Rattle.figures.specs.declared.Train.{Train}
use Rattle.figures.specs.declared.Period.{Period}
use Rattle.figures.specs.Rules.{train_check}
use Rattle.study.specs.declared.Entry.{Entry}
use Rattle.study.specs.Plan.{Plan}
use Rattle.study.specs.Add.{ours}
use Rattle.request.specs.Request.{cell_in}
use Rattle.text.specs.Text.{read_text}
use Rattle.text.specs.Answer.{plan_in}
use Rattle.speeds.specs.Speeds.{at_speed}

-- the trains of a plan's entries
abbrev pub train_of_entry : Entry → Train
train_of_entry e = e.train

abbrev pub trains_held : Plan → List Train
trains_held plan = map train_of_entry plan.entries

-- how many entries an accepted text has, and the train of the one at a place, none where there is no such entry
pub record TrainIn (text : List ℕ) (place : ℕ) (r : ℕ × Option Train) : Type 0 where
  pub total : (read_text ours text).check ≡ Ok tt → r.0 ≡ length (plan_in text).entries
  pub train : (read_text ours text).check ≡ Ok tt → r.1 ≡ slice_get (trains_held (plan_in text)) place

-- a cell holds what a segment adds, in 16 bits, and what an accepted train emits
pub record Emitted (p : Period) (t : Train) (cell : ℤ) : Type 0 where
  pub check : train_check t ≡ Ok tt
  pub added : ℤ
  pub small : mag added < 2 ^ 15
  pub is : cell ≡ cell_in p added t

-- what such a segment adds, as far as it is heard at any speed
pub record Regained (p : Period) (t : Train) (cell r : ℤ) : Type 0 where
  pub same : (d : ℤ) → cell ≡ cell_in p d t → (v : ℕ) → cell_in p r (at_speed v t) ≡ cell_in p d (at_speed v t)
