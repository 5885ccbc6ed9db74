-- What C gets of a period's result is as accurate as the result.
-- Assumes nothing.
use mathlib.Core.Path.{ap}
use Rattle.figures.specs.declared.Period.{Period}
use Rattle.study.specs.Plan.{Plan}
use Rattle.request.specs.declared.PeriodResult.{PeriodResult}
use Rattle.request.specs.Accuracy.{AccurateToBare, demanded}
use Rattle.c_values.specs.Values.{is_silent, exported_period}
use Rattle.c_values.specs.Accuracy.{PeriodAccurate}

pub exported_accurate : (p : Period) (plan : Plan) (x : PeriodResult) → AccurateToBare demanded p plan x → PeriodAccurate p plan (exported_period x)
unfolding exported_period
exported_accurate p plan x a =
    let level = a.accurate.level in
    record {
      bare = a.bare;
      is = a.is;
      only = a.only;
      figure = ap is_silent level;
      above = rw level a.accurate.above;
      below = rw level a.accurate.below;
      always = a.accurate.always;
      never = a.accurate.never;
    }
