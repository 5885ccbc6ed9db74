-- The starred readings of 01 ("Readings around the edges"), all of them: those of the steps, each on the meaning of its step, and the day's verdict at 67.5 and 67.4.
-- Assumes nothing.
use Rattle.std.specs.Prelude.{◌≡◌, Bool, true, false, pos, negsuc, ◌+ℤ◌}
use Rattle.decibel.specs.Round.{micro, nearest, by_mark}
use Rattle.decibel.specs.declared.Level.TheVariants.{Figure}
use Rattle.figures.specs.declared.Segment.{Segment}
use Rattle.figures.specs.declared.Train.{Train}
use Rattle.figures.specs.declared.Period.{Period}
use Rattle.figures.specs.declared.Period.TheVariants.{Day}
use Rattle.propagation.specs.Distance.{distance_fence}
use Rattle.propagation.specs.Air.{air_fence}
use Rattle.propagation.specs.Opposite.{opposite_fence}
use Rattle.propagation.specs.Ground.{path_fence, GroundMark}
use Rattle.emission.specs.Speed.{speed_fence}
use Rattle.emission.specs.Vehicles.{vehicles_fence}
use Rattle.emission.specs.Trains.{trains_in, hours_tenths, trains_fence}
use Rattle.request.specs.Levels.{met_by}

pub record Readings : Type 0 where
  -- speed, in km/h
  pub speed_100 : (t : Train) → t.speed ≡ pos 100 → nearest (speed_fence t) ≡ pos 712
  pub speed_150 : (t : Train) → t.speed ≡ pos 150 → nearest (speed_fence t) ≡ pos 747
  -- vehicles
  pub vehicles_2 : (t : Train) → t.vehicles ≡ pos 2 → nearest (vehicles_fence t) ≡ pos 30
  pub vehicles_10 : (t : Train) → t.vehicles ≡ pos 10 → nearest (vehicles_fence t) ≡ pos 100
  -- distance at 25 m
  pub distance_2500 : (s : Segment) → s.distance ≡ pos 2500 → s.height ≡ pos 0 → nearest (distance_fence s) ≡ pos 0
  -- air: 18.75 m is a tie
  pub air_1875 : (s : Segment) → s.distance ≡ pos 1875 → s.height ≡ pos 0 → nearest (air_fence s) ≡ pos 1
  pub air_1876 : (s : Segment) → s.distance ≡ pos 1876 → s.height ≡ pos 0 → nearest (air_fence s) ≡ pos 0
  -- ground, with any mark
  pub ground_10000 : (s : Segment) → s.screen ≡ pos 0 → s.distance ≡ pos 10000 → s.soft ≡ pos 10 → s.mean ≡ pos 600 → (mark : Bool) → by_mark mark (path_fence s) ≡ pos 0
  -- ground at a tie: the mark is required, and the louder neighbour taken
  pub ground_25000 : (s : Segment) → s.screen ≡ pos 0 → s.distance ≡ pos 25000 → s.soft ≡ pos 5 → s.mean ≡ pos 350 → (mark : Bool) → GroundMark s mark → (mark ≡ true) × (by_mark mark (path_fence s) ≡ negsuc 6)
  -- opposite facades: 1 degree of 30 is a tie
  pub opposite_30 : (s : Segment) → s.opposite ≡ pos 1 → s.view ≡ pos 30 → nearest (opposite_fence s) ≡ pos 1
  pub opposite_31 : (s : Segment) → s.opposite ≡ pos 1 → s.view ≡ pos 31 → nearest (opposite_fence s) ≡ pos 0
  -- trains, before the period's hours are taken off
  pub trains_13 : (p : Period) (t : Train) → trains_in p t ≡ 13 → nearest (trains_fence p t +ℤ micro (pos (hours_tenths p))) ≡ pos 111
  -- the verdict by day, on whole decibels
  pub day_67_5_met : met_by Day (Figure (pos 675)) ≡ true
  pub day_67_4_not : met_by Day (Figure (pos 674)) ≡ false
