-- What there is of each period: levels, cells and results by day and by night.
-- Assumes nothing.
use Rattle.figures.specs.declared.Period.{Period}
use Rattle.figures.specs.declared.Period.TheVariants.{Day, Night}
use Rattle.figures.specs.declared.Periods.{Periods}

-- that of one of them
unfoldable pub in_period : {A : Type 0} → Period → Periods A → A
in_period Day b = b.day
in_period Night b = b.night
