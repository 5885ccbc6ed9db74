-- Demand 3 for a period as C gets it: how far its level lies from the bare level of what the study holds.
-- Assumes nothing.
use Rattle.std.specs.Prelude.{◌≡◌, true, false, ◌*◌, ◌-◌, ℤ, pos, ◌+ℤ◌, ◌≤ℤ◌, ◌<ℤ◌}
use Rattle.decibel.specs.Round.{micro}
use Rattle.figures.specs.declared.Period.{Period}
use Rattle.study.specs.Plan.{Plan}
use Rattle.request.specs.Levels.{limit_of}
use Rattle.request.specs.Accuracy.{Bare, demanded}
use Rattle.c_values.specs.declared.RailnoisePeriod.{RailnoisePeriod}

-- there is one bare level; the level is a figure, which counts 100,000 microdecibels to the tenth, at most 0.46 dB from it;
-- and it settles the verdict outside the band
pub record PeriodAccurate (p : Period) (plan : Plan) (r : RailnoisePeriod) : Type 0 where
  pub bare : ℤ
  pub is : Bare p plan bare
  pub only : (b : ℤ) → Bare p plan b → b ≡ bare
  pub figure : r.silent ≡ false
  pub above : micro r.level ≤ℤ (bare +ℤ pos demanded.above)
  pub below : bare ≤ℤ (micro r.level +ℤ pos demanded.below)
  pub always : pos (1000000 * limit_of p - demanded.always) ≤ℤ bare → r.met ≡ true
  pub never : bare <ℤ pos (1000000 * limit_of p - demanded.never) → r.met ≡ false
