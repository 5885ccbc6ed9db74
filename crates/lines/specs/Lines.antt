-- The line of a segment, 15 numbers (02, L1), and of a train entry, 5 numbers (01, "The study"); none where it has another count or form.
-- Assumes nothing.
use Rattle.std.specs.Prelude.{ℕ, List, ℤ, pos, Option, None, Some, slice_index_or}
use Rattle.figures.specs.declared.Segment.{Segment}
use Rattle.figures.specs.declared.Train.{Train}
use Rattle.lines.specs.Numbers.{numbers_of, exactly}

-- the number at a place, from 0
abbrev pub nth : List ℤ → ℕ → ℤ
nth vs k = slice_index_or vs k (pos 0)

-- a segment's fields in 01's order, the far wall last (L1)
abbrev pub segment_as : Option (List ℤ) → Option Segment
segment_as None = None
segment_as (Some vs) =
    Some
    (record {
      distance = nth vs 0;
      height = nth vs 1;
      mean = nth vs 2;
      soft = nth vs 3;
      view = nth vs 4;
      doubled = nth vs 5;
      screen = nth vs 6;
      setback = nth vs 7;
      top = nth vs 8;
      chart = nth vs 9;
      track = nth vs 10;
      ballast = nth vs 11;
      facade = nth vs 12;
      opposite = nth vs 13;
      wall = nth vs 14;
    })

unfoldable pub segment_of : List ℕ → Option Segment
segment_of line = segment_as (exactly 15 (numbers_of line))

-- a train entry's fields in 01's order
abbrev pub train_as : Option (List ℤ) → Option Train
train_as None = None
train_as (Some vs) =
    Some (record { row = nth vs 0; speed = nth vs 1; vehicles = nth vs 2; day = nth vs 3; night = nth vs 4 })

unfoldable pub train_of : List ℕ → Option Train
train_of line = train_as (exactly 5 (numbers_of line))
