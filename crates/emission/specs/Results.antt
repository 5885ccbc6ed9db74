-- What the functions of this crate ensure: the value, and bounds that let it be added.
-- Assumes nothing.
use Rattle.std.specs.Prelude.{◌≡◌, ℕ}
use Rattle.decibel.specs.declared.Level.{Level}
use Rattle.decibel.specs.declared.Level.TheVariants.{Silent, Figure}
use Rattle.figures.specs.Bounds.{Below}
use Rattle.emission.specs.declared.TrainBreakdown.{TrainBreakdown}

unfoldable pub SmallLevel : ℕ → Level → Type 0
SmallLevel n Silent = Unit {0}
SmallLevel n (Figure r) = Below n r

-- a train's parts
pub record TrainParted (v r : TrainBreakdown) : Type 0 where
  pub is : r ≡ v
  pub speed : Below 2000 r.speed
  pub vehicles : Below 2000 r.vehicles
  pub rolling : Below 2000 r.rolling
  pub day : SmallLevel 2000 r.trains.day
  pub night : SmallLevel 2000 r.trains.night

-- their sum in a period
pub record Emits (v r : Level) : Type 0 where
  pub is : r ≡ v
  pub small : SmallLevel 10000 r
