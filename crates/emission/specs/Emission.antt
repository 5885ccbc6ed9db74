-- What a train adds to its entry's level: its parts, and their sum in each period (01, "The steps" and "The bare level").
-- Assumes nothing.
use Rattle.std.specs.Prelude.{cond, ℤ, pos, ◌+ℤ◌, is_ok}
use Rattle.decibel.specs.Round.{micro, nearest}
use Rattle.decibel.specs.declared.Level.{Level}
use Rattle.decibel.specs.declared.Level.TheVariants.{Silent, Figure}
use Rattle.figures.specs.declared.Train.{Train}
use Rattle.figures.specs.declared.Period.{Period}
use Rattle.figures.specs.declared.Period.TheVariants.{Day, Night}
use Rattle.figures.specs.Periods.{in_period}
use Rattle.figures.specs.Rules.{train_check}
use Rattle.emission.specs.declared.TrainBreakdown.{TrainBreakdown}
use Rattle.emission.specs.Rolling.{rolling_tenths}
use Rattle.emission.specs.Speed.{speed_fence}
use Rattle.emission.specs.Vehicles.{vehicles_fence}
use Rattle.emission.specs.Trains.{trains_fence, trains_level}

-- a level so many tenths higher; silent stays silent
unfoldable pub raised : ℤ → Level → Level
raised d Silent = Silent
raised d (Figure r) = Figure (d +ℤ r)

-- each step to its nearest tenth, and the row's figure
unfoldable pub train_parts_of : Train → TrainBreakdown
train_parts_of t =
    record {
      speed = nearest (speed_fence t);
      vehicles = nearest (vehicles_fence t);
      rolling = rolling_tenths t;
      trains = record { day = trains_level Day t; night = trains_level Night t };
    }

unfoldable pub no_train_parts : TrainBreakdown
no_train_parts = record { speed = pos 0; vehicles = pos 0; rolling = pos 0; trains = record { day = Silent; night = Silent } }

-- for every train: nothing of a refused one
unfoldable pub train_breakdown_of : Train → TrainBreakdown
train_breakdown_of t = cond (is_ok (train_check t)) (train_parts_of t) no_train_parts

-- ---- the parts added

unfoldable pub emission_of : Period → Train → Level
emission_of p t = let b = train_breakdown_of t in raised (b.speed +ℤ (b.vehicles +ℤ b.rolling)) (in_period p b.trains)

-- with no step rounded
unfoldable pub train_fence : Period → Train → ℤ
train_fence p t = speed_fence t +ℤ (vehicles_fence t +ℤ micro (rolling_tenths t)) +ℤ trains_fence p t
