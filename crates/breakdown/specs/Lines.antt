-- The lines of a breakdown, part by part: a segment's and a train entry's, each part after its name, in decibels with one decimal.
-- Assumes nothing.
use Rattle.std.specs.Prelude.{Bool, true, false, cond, List, [], ◌∷◌, ◌++◌, ℕ, ◌+◌, ltb, ℤ, negsuc}
use Rattle.std.specs.Int.Signed.{lt_z}
use Rattle.decibel.specs.declared.Level.{Level}
use Rattle.decibel.specs.declared.Level.TheVariants.{Silent, Figure}
use Rattle.figures.specs.declared.Segment.{Segment}
use Rattle.figures.specs.declared.Train.{Train}
use Rattle.figures.specs.Rules.{unscreened}
use Rattle.propagation.specs.declared.SegmentBreakdown.{SegmentBreakdown}
use Rattle.propagation.specs.Propagation.{segment_breakdown_of}
use Rattle.emission.specs.declared.TrainBreakdown.{TrainBreakdown}
use Rattle.emission.specs.Emission.{train_breakdown_of}
use Rattle.writing.specs.Bytes.{ascii, digits_of, figure_of}
use Rattle.report.specs.Bytes.{level}
use Rattle.study.specs.Add.{ours}

-- ---- a part after its name, which has the spaces around it

abbrev pub figure_part : List ℕ → ℤ → List (List ℕ)
figure_part name tenths = name ∷ figure_of tenths ∷ []

abbrev pub level_part : List ℕ → Level → List (List ℕ)
level_part name l = name ∷ level l ∷ []

abbrev pub number_part : List ℕ → ℕ → List (List ℕ)
number_part name n = name ∷ digits_of n ∷ []

-- ---- a segment

-- ground, or the screen instead of it
unfoldable pub path_part : Segment → ℤ → List (List ℕ)
path_part s tenths = figure_part (cond (unscreened s) (ascii " ground ") (ascii " screen ")) tenths

-- ground's close mark
unfoldable pub close_part : Bool → List ℕ
close_part true = ascii " close yes\n"
close_part false = ascii " close no\n"

-- the steps from the source to the window
unfoldable pub step_parts : Segment → SegmentBreakdown → List (List ℕ)
step_parts s b =
    figure_part (ascii " distance ") b.distance
    ++ (figure_part (ascii " air ") b.air ++ (path_part s b.path ++ figure_part (ascii " angle ") b.angle))

-- the readings of Chart 6(c), Table 1 and ballast
unfoldable pub reading_parts : SegmentBreakdown → List (List ℕ)
reading_parts b =
    figure_part (ascii " chart ") b.chart ++ (figure_part (ascii " track ") b.track ++ figure_part (ascii " ballast ") b.ballast)

-- the reflections, and the mark
unfoldable pub reflection_parts : SegmentBreakdown → List (List ℕ)
reflection_parts b =
    figure_part (ascii " facade ") b.facade ++ (figure_part (ascii " opposite ") b.opposite ++ (close_part b.close ∷ []))

-- the line of a segment, by its number in the study
unfoldable pub segment_parts : ℕ → Segment → List (List ℕ)
segment_parts number s =
    let b = segment_breakdown_of s in
    number_part (ascii "segment ") number ++ (step_parts s b ++ (reading_parts b ++ reflection_parts b))

-- ---- a train entry

unfoldable pub train_parts : TrainBreakdown → List (List ℕ)
train_parts b =
    figure_part (ascii " speed ") b.speed
    ++ (figure_part (ascii " rolling ") b.rolling
    ++ (figure_part (ascii " vehicles ") b.vehicles
    ++ (level_part (ascii " trains by day ") b.trains.day ++ level_part (ascii " trains by night ") b.trains.night)))

-- the level that a working cell (01's term) holds: one below -200 dB is silent, as -9999 is
unfoldable pub cell_level : ℤ → Level
cell_level cell = cond (lt_z cell (negsuc 1999)) Silent (Figure cell)

-- the levels of an entry, by its two cells
unfoldable pub level_parts : ℤ → ℤ → List (List ℕ)
level_parts day night =
    level_part (ascii " level by day ") (cell_level day) ++ (level_part (ascii " level by night ") (cell_level night) ++ (ascii "\n" ∷ []))

-- the number of the segment at a place; places count from 0. A place past the last, which no study has, is written as the last
unfoldable pub place_number : ℕ → ℕ
place_number k = cond (ltb k ours.segments) (k + 1) ours.segments

-- the line of an entry, by its number in the study and its segment's
unfoldable pub entry_parts : ℕ → ℕ → Train → ℤ → ℤ → List (List ℕ)
entry_parts number segment t day night =
    number_part (ascii "train ") number
    ++ (number_part (ascii " segment ") segment ++ (train_parts (train_breakdown_of t) ++ level_parts day night))
