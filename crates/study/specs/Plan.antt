-- What a study holds (01, "The study"): its segments and its train entries in order, each entry with the place of its segment. Clauses see a `Study` as its plan.
-- Assumes nothing.
use Rattle.std.specs.Prelude.{List, [], ℕ, pos, get_or}
use Rattle.figures.specs.declared.Segment.{Segment}
use Rattle.figures.specs.declared.Train.{Train}
use Rattle.study.specs.declared.Entry.{Entry}

pub record Plan : Type 0 where
  pub segments : List Segment
  pub entries : List Entry

abbrev pub empty_plan : Plan
empty_plan = record { segments = []; entries = [] }

-- what a look past the end of a list gives; no accepted segment's figures are all 0
abbrev pub no_segment : Segment
no_segment =
    record { distance = pos 0; height = pos 0; mean = pos 0; soft = pos 0; view = pos 0; doubled = pos 0; screen = pos 0; setback = pos 0; top = pos 0; chart = pos 0; track = pos 0; ballast = pos 0; facade = pos 0; opposite = pos 0; wall = pos 0 }

abbrev pub no_train : Train
no_train = record { row = pos 0; speed = pos 0; vehicles = pos 0; day = pos 0; night = pos 0 }

abbrev pub no_entry : Entry
no_entry = record { segment = 0; train = no_train }

abbrev pub segment_at : Plan → ℕ → Segment
segment_at plan k = get_or plan.segments k no_segment
