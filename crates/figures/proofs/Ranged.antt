-- Numbers within bounds, as naturals on either side of zero: what is known of a segment or train that keeps its lines.
-- Assumes nothing.
use Rattle.std.specs.Prelude.{◌≡◌, ℕ, ◌≤◌, ℤ}
use Rattle.decibel.specs.Ints.{up, dn}
use Rattle.figures.specs.declared.Segment.{Segment}
use Rattle.figures.specs.declared.Train.{Train}
use Rattle.figures.specs.Rules.{least_distance, most_distance, lowest_window, highest_window, highest_mean, lowest_top, highest_top, highest_wall, most_soft, least_view, widest_angle, most_chart, most_track, lowest_ballast, most_row, least_speed, most_speed, most_vehicles, most_trains}

-- from a to b
pub record From (a b : ℕ) (z : ℤ) : Type 0 where
  pub least : a ≤ up z
  pub most : up z ≤ b
  pub sign : dn z ≡ 0

-- from -a to b
pub record Signed (a b : ℕ) (z : ℤ) : Type 0 where
  pub most : up z ≤ b
  pub least : dn z ≤ a

-- a segment that keeps lines 1 to 5 (`ranged` of Kept)
pub record Ranged (s : Segment) : Type 0 where
  pub distance : From least_distance most_distance s.distance
  pub height : Signed lowest_window highest_window s.height
  pub mean : From 0 highest_mean s.mean
  pub soft : From 0 most_soft s.soft
  pub view : From least_view widest_angle s.view
  pub doubled : From (up s.view) widest_angle s.doubled
  pub setback : From 0 (up s.distance) s.setback
  pub top : Signed lowest_top highest_top s.top
  pub chart : From 0 most_chart s.chart
  pub wall : From 0 highest_wall s.wall

-- one that keeps line 7 (`readings_ranged`)
pub record ReadingsRanged (s : Segment) : Type 0 where
  pub track : From 0 most_track s.track
  pub ballast : Signed lowest_ballast 0 s.ballast
  pub facade : From 0 1 s.facade
  pub opposite : From 0 (up s.view) s.opposite

-- a train entry that is accepted (`train_ranged`)
pub record TrainRanged (t : Train) : Type 0 where
  pub row : From 1 most_row t.row
  pub speed : From least_speed most_speed t.speed
  pub vehicles : From 1 most_vehicles t.vehicles
  pub day : From 0 most_trains t.day
  pub night : From 0 most_trains t.night
