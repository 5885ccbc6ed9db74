-- A period's two levels and conditions, as the code puts them together.
-- Assumes nothing.
use mathlib.Core.Path.{◌≡◌}
use mathlib.Core.Bool.{Bool, ◌&&◌}
use Rattle.decibel.specs.declared.Level.{Level}
use Rattle.energy.specs.declared.Total.{Total}
use Rattle.figures.specs.declared.Period.{Period}
use Rattle.request.specs.Levels.{met_by}
use Rattle.entitlement.specs.declared.Change.{Change}
use Rattle.entitlement.specs.declared.PeriodEntitlement.{PeriodEntitlement}
use Rattle.entitlement.specs.Conditions.{combined, exceeds, period_by, period_of}
use Rattle.entitlement.specs.Entitlement.{held, held_change}

module _ (p : Period) (c : Change) where
  abbrev before : Total
  before = combined (held c.before.altered) (held c.before.other)

  abbrev after : Total
  after = combined (held c.after.altered) (held c.after.other)

  pub period_is : {x y : Total} {other : Level} {reaches rises contributes entitled : Bool} → x ≡ before → y ≡ after → other ≡ held c.after.other
      → reaches ≡ met_by p y.level → rises ≡ exceeds y.level x.level → contributes ≡ exceeds y.level other → entitled ≡ reaches && (rises && contributes)
      → ◌≡◌ {A = PeriodEntitlement} (record { prevailing = x; relevant = y; reaches = reaches; rises = rises; contributes = contributes; entitled = entitled }) (period_of p (held_change c))
  unfolding period_of period_by held_change
  period_is e f g m r k w = rw (w, m, r, k, e, f, g)
