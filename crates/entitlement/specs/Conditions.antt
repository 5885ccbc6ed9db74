-- A period's prevailing and relevant level, from reported tenths, and the three conditions of paragraph 7 (02, L2; memorandum, paragraphs 7 and 8).
-- Assumes nothing.
use Rattle.std.specs.Prelude.{Bool, true, false, ◌&&◌, [], ◌∷◌, pos, ◌+ℤ◌}
use Rattle.std.specs.Int.Signed.{le_z}
use Rattle.decibel.specs.declared.Level.{Level}
use Rattle.decibel.specs.declared.Level.TheVariants.{Silent, Figure}
use Rattle.energy.specs.declared.Total.{Total}
use Rattle.energy.specs.Total.{TotalMark}
use Rattle.energy.specs.Mark.{total_of}
use Rattle.figures.specs.declared.Period.{Period}
use Rattle.request.specs.Levels.{figures, met_by}
use Rattle.entitlement.specs.declared.Layout.{Layout}
use Rattle.entitlement.specs.declared.Change.{Change}
use Rattle.entitlement.specs.declared.PeriodEntitlement.{PeriodEntitlement}

-- "combine by Chart 9 .. each from the reported tenths and rounded with the same close mark as a total": the total of those that are not silent
unfoldable pub combined : Level → Level → Total
combined first second = total_of (figures (first ∷ second ∷ []))

-- a level without a mark
abbrev pub unmarked : Level → Total
unmarked l = record { level = l; close = false }

-- by at least 1.0 dB, on tenths. "A silent level is more than 1.0 dB below every figure and exceeds no silent one"
unfoldable pub exceeds : Level → Level → Bool
exceeds Silent other = false
exceeds (Figure tenths) Silent = true
exceeds (Figure tenths) (Figure other) = le_z (other +ℤ pos 10) tenths

-- from the prevailing level, the relevant level, and the level of the other lines after the works: (i) the relevant level reaches the limit on whole decibels,
-- (ii) it exceeds the prevailing level and (iii) the other lines after, each by at least 1.0 dB. "A period is entitled when all three hold"
unfoldable pub period_by : Period → Total → Total → Level → PeriodEntitlement
period_by p prevailing relevant other_after =
    let reaches = met_by p relevant.level in
    let rises = exceeds relevant.level prevailing.level in
    let contributes = exceeds relevant.level other_after in
    record { prevailing = prevailing; relevant = relevant; reaches = reaches; rises = rises; contributes = contributes; entitled = reaches && (rises && contributes) }

-- "The two before combine .. into the prevailing level, the two after into the relevant level"
unfoldable pub period_of : Period → Change → PeriodEntitlement
period_of p c =
    period_by p (combined c.before.altered c.before.other) (combined c.after.altered c.after.other) c.after.other

-- 01 allows the mark of a combination
abbrev pub CombinedAllowed : Layout Level → Type 0
CombinedAllowed x = TotalMark (figures (x.altered ∷ x.other ∷ [])) (combined x.altered x.other).close

pub record ChangeAllowed (c : Change) : Type 0 where
  pub prevailing : CombinedAllowed c.before
  pub relevant : CombinedAllowed c.after
