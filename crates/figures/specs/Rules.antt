-- The lines that a segment and a train entry keep (01, "The study"; 02, L1 and L4), each bound by its name, and the first line that is not kept (01, "Turned back
-- for a figure"). Line 6 needs the screen's lengths and stands with the screen (crate propagation).
-- Assumes nothing.
use Rattle.std.specs.Prelude.{Bool, cond, ◌&&◌, ◌||◌, List, [], ◌∷◌, ℕ, ℤ, pos, neg_ℤ, ◌+ℤ◌, Ok}
use Rattle.std.specs.Int.Signed.{le_z}
use Rattle.figures.specs.declared.Segment.{Segment}
use Rattle.figures.specs.declared.Train.{Train}
use Rattle.figures.specs.declared.Refusal.TheVariants.{Distance, Height, Ground, Angle, Screen, Row, Speed, Vehicles, Trains}
use Rattle.figures.specs.Refusal.{unless, Check}

-- ---- the bounds

-- lengths in centimetres; `lowest` ones are so far below zero
abbrev pub least_distance : ℕ
least_distance = 1000

abbrev pub most_distance : ℕ
most_distance = 30000

abbrev pub lowest_window : ℕ
lowest_window = 5000

abbrev pub highest_window : ℕ
highest_window = 5000

abbrev pub highest_mean : ℕ
highest_mean = 5000

-- from the screen to the source and to the window
abbrev pub least_gap : ℕ
least_gap = 100

abbrev pub lowest_top : ℕ
lowest_top = 2000

abbrev pub highest_top : ℕ
highest_top = 5000

-- in decimetres (L1)
abbrev pub highest_wall : ℕ
highest_wall = 100

-- tenths of the ground
abbrev pub most_soft : ℕ
most_soft = 10

-- angles in degrees
abbrev pub least_view : ℕ
least_view = 5

abbrev pub widest_angle : ℕ
widest_angle = 180

-- readings in tenths of a decibel
abbrev pub most_chart : ℕ
most_chart = 100

abbrev pub most_track : ℕ
most_track = 150

abbrev pub lowest_ballast : ℕ
lowest_ballast = 30

-- rows of Table A1.1, km/h (L4: from 1), vehicles of a train, trains of a period
abbrev pub most_row : ℕ
most_row = 34

abbrev pub least_speed : ℕ
least_speed = 1

abbrev pub most_speed : ℕ
most_speed = 300

abbrev pub most_vehicles : ℕ
most_vehicles = 60

abbrev pub most_trains : ℕ
most_trains = 2000

-- ---- the lines

-- low to high
abbrev pub within : ℤ → ℤ → ℤ → Bool
within low high x = le_z low x && le_z x high

-- 1: d
unfoldable pub distance_kept : Segment → Bool
distance_kept s = within (pos least_distance) (pos most_distance) s.distance

-- 2: h and H
unfoldable pub heights_kept : Segment → Bool
heights_kept s = within (neg_ℤ (pos lowest_window)) (pos highest_window) s.height && within (pos 0) (pos highest_mean) s.mean

-- 3: I
unfoldable pub soft_kept : Segment → Bool
soft_kept s = within (pos 0) (pos most_soft) s.soft

-- 4: θ and a
unfoldable pub angles_kept : Segment → Bool
angles_kept s = within (pos least_view) (pos widest_angle) s.view && within s.view (pos widest_angle) s.doubled

-- there is no screen
unfoldable pub unscreened : Segment → Bool
unscreened s = within (pos 0) (pos 0) s.screen

-- without a screen D, b, the Chart 6(c) reading and the far wall (L1) are 0
unfoldable pub unscreened_kept : Segment → Bool
unscreened_kept s =
    within (pos 0) (pos 0) s.setback
    && (within (pos 0) (pos 0) s.top && (within (pos 0) (pos 0) s.chart && within (pos 0) (pos 0) s.wall))

-- with one: D off source and window, b, the Chart 6(c) reading up to most, the far wall (L1), and no ballast
unfoldable pub screened_kept : Segment → ℤ → Bool
screened_kept s most =
    (le_z (pos least_gap) s.setback && le_z (s.setback +ℤ pos least_gap) s.distance)
    && (within (neg_ℤ (pos lowest_top)) (pos highest_top) s.top
    && (within (pos 0) most s.chart && (within (pos 0) (pos highest_wall) s.wall && within (pos 0) (pos 0) s.ballast)))

-- 5: fields 7 to 10 and 15 against their lines, and ballast with a screen. A Chart 6(c) reading needs a reflective screen
unfoldable pub screen_kept : Segment → Bool
screen_kept s =
    (unscreened s && unscreened_kept s)
    || ((within (pos 1) (pos 1) s.screen && screened_kept s (pos 0)) || (within (pos 2) (pos 2) s.screen && screened_kept s (pos most_chart)))

-- the first of lines 1 to 5 that a segment does not keep, else what the later lines say
unfoldable pub ranges_then : Segment → Check → Check
ranges_then s later =
    unless (distance_kept s) Distance (unless (heights_kept s) Height (unless (soft_kept s) Ground (unless (angles_kept s) Angle (unless (screen_kept s) Screen later))))

-- those lines alone
unfoldable pub range_check : Segment → Check
range_check s = ranges_then s (Ok tt)

-- 7: fields 11 to 14 in another way
unfoldable pub readings_kept : Segment → Bool
readings_kept s =
    within (pos 0) (pos most_track) s.track
    && (within (neg_ℤ (pos lowest_ballast)) (pos 0) s.ballast && (within (pos 0) (pos 1) s.facade && within (pos 0) s.view s.opposite))

-- 8: row. 9: speed. 10: vehicles. 11: trains by day and by night
unfoldable pub row_kept : Train → Bool
row_kept t = within (pos 1) (pos most_row) t.row

unfoldable pub speed_kept : Train → Bool
speed_kept t = within (pos least_speed) (pos most_speed) t.speed

unfoldable pub vehicles_kept : Train → Bool
vehicles_kept t = within (pos 1) (pos most_vehicles) t.vehicles

unfoldable pub trains_kept : Train → Bool
trains_kept t = within (pos 0) (pos most_trains) t.day && within (pos 0) (pos most_trains) t.night

-- the first line that a train entry does not keep
unfoldable pub train_check : Train → Check
train_check t = unless (row_kept t) Row (unless (speed_kept t) Speed (unless (vehicles_kept t) Vehicles (unless (trains_kept t) Trains (Ok tt))))

-- ---- the same by 01's numbers

-- "The lowest number that applies is returned": of lines with their numbers, lowest first, that of the first one not kept; 0 where all are
unfoldable pub lowest_number : List (ℕ × Bool) → ℕ
lowest_number [] = 0
lowest_number ((number, kept) ∷ later) = cond kept (lowest_number later) number

unfoldable pub range_lines : Segment → List (ℕ × Bool)
range_lines s = (1, distance_kept s) ∷ (2, heights_kept s) ∷ (3, soft_kept s) ∷ (4, angles_kept s) ∷ (5, screen_kept s) ∷ []

unfoldable pub train_lines : Train → List (ℕ × Bool)
train_lines t = (8, row_kept t) ∷ (9, speed_kept t) ∷ (10, vehicles_kept t) ∷ (11, trains_kept t) ∷ []
