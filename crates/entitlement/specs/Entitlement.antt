-- Entitlement from four studies, each perhaps marked as empty (02, L2): what is turned back, what they report, and the answer.
-- Assumes nothing.
use Rattle.std.specs.Prelude.{◌≡◌, Bool, true, false, cond, ◌&&◌, ◌||◌, [], ◌∷◌, ℕ, ltb, pos, negsuc, length, Option, Some, None, IfSome, option_copied, Result, Ok}
use Rattle.std.specs.Int.Signed.{lt_z}
use Rattle.std.specs.Result.{result_unwrap_or}
use Rattle.std.specs.Borrow.{Bor}
use Rattle.decibel.specs.declared.Level.{Level}
use Rattle.decibel.specs.declared.Level.TheVariants.{Silent, Figure}
use Rattle.figures.specs.declared.Period.{Period}
use Rattle.figures.specs.declared.Period.TheVariants.{Day, Night}
use Rattle.figures.specs.declared.Periods.{Periods}
use Rattle.figures.specs.declared.Refusal.{Refusal}
use Rattle.figures.specs.declared.Refusal.TheVariants.{NoEntry}
use Rattle.figures.specs.Refusal.{unless, Check, answered}
use Rattle.figures.specs.Rules.{lowest_number}
use Rattle.study.specs.Plan.{Plan}
use Rattle.request.specs.declared.PeriodResult.{PeriodResult}
use Rattle.request.specs.Levels.{result_by, own_marks, MarksAllowed}
use Rattle.entitlement.specs.declared.Layout.{Layout}
use Rattle.entitlement.specs.declared.Change.{Change}
use Rattle.entitlement.specs.declared.PeriodEntitlement.{PeriodEntitlement}
use Rattle.entitlement.specs.declared.Entitlement.{Entitlement}
use Rattle.entitlement.specs.Conditions.{unmarked, period_of, ChangeAllowed}

-- ---- what four studies report

-- lines at a window: the plan of their study, or none where they are marked as empty
abbrev pub Lines : Type 0
Lines = Option Plan

-- of the studies that a call is given
abbrev pub plans_of : Layout (Option (Bor Plan)) → Layout Lines
plans_of x = record { altered = option_copied x.altered; other = option_copied x.other }

-- "A study may be marked as empty; it is then silent and not read"; else its level in a period is the total that it reports
unfoldable pub reported_in : Period → Lines → Level
reported_in p None = Silent
reported_in p (Some plan) = (result_by p plan (own_marks plan)).level

-- both periods' levels, of what is answered
abbrev pub reported : Option (Periods PeriodResult) → Periods Level
reported None = record { day = Silent; night = Silent }
reported (Some results) = record { day = results.day.level; night = results.night.level }

unfoldable pub levels_in : Period → Layout Lines → Layout Level
levels_in p x = record { altered = reported_in p x.altered; other = reported_in p x.other }

unfoldable pub change_in : Period → Layout Lines → Layout Lines → Change
change_in p before after = record { before = levels_in p before; after = levels_in p after }

-- ---- the answer

-- from both periods' levels: "the house when either period is"
unfoldable pub entitlement_by : Change → Change → Entitlement
entitlement_by day night =
    let by_day = period_of Day day in
    let by_night = period_of Night night in
    record { day = by_day; night = by_night; entitled = by_day.entitled || by_night.entitled }

-- whether the line of 23 is kept: marked as empty, or with an entry
unfoldable pub entries_kept : Lines → Bool
entries_kept None = true
entries_kept (Some plan) = ltb 0 (length plan.entries)

unfoldable pub all_kept : Layout Lines → Layout Lines → Bool
all_kept before after = (entries_kept before.altered && entries_kept before.other) && (entries_kept after.altered && entries_kept after.other)

-- "a study without an entry and not marked empty is 23"
unfoldable pub entitlement_check : Layout Lines → Layout Lines → Check
entitlement_check before after = unless (all_kept before after) NoEntry (Ok tt)

-- the same by 01's number
unfoldable pub entitlement_number : Layout Lines → Layout Lines → ℕ
entitlement_number before after = lowest_number ((23, all_kept before after) ∷ [])

-- the altered and the other lines before the works, and after them
unfoldable pub entitlement_of : Layout Lines → Layout Lines → Result Entitlement Refusal
entitlement_of before after = answered (entitlement_check before after) (entitlement_by (change_in Day before after) (change_in Night before after))

-- what is shown of an answer; beside a refusal every level is silent and unmarked, and no condition holds
abbrev pub no_period : PeriodEntitlement
no_period = record { prevailing = unmarked Silent; relevant = unmarked Silent; reaches = false; rises = false; contributes = false; entitled = false }

abbrev pub silent_entitlement : Entitlement
silent_entitlement = record { day = no_period; night = no_period; entitled = false }

abbrev pub shown : Result Entitlement Refusal → Entitlement
shown answer = result_unwrap_or answer silent_entitlement

-- ---- what the functions ensure: the answer by the program's own marks, and that 01 allows these

-- a level as the total hears it (`heard` of energy, which has the same bounds): one below -200 dB is silent and one above 200 dB counts as that.
-- They are this library's bounds, and no study reports a level beyond them (`reported_held` of `SilenceMeans`)
abbrev pub held : Level → Level
held Silent = Silent
held (Figure tenths) = cond (lt_z tenths (negsuc 1999)) Silent (Figure (cond (lt_z (pos 2000) tenths) (pos 2000) tenths))

abbrev pub held_levels : Layout Level → Layout Level
held_levels x = record { altered = held x.altered; other = held x.other }

unfoldable pub held_change : Change → Change
held_change c = record { before = held_levels c.before; after = held_levels c.after }

-- of any levels
pub record EntitlementAnsweredBy (day night : Change) (r : Entitlement) : Type 0 where
  pub answer : r ≡ entitlement_by (held_change day) (held_change night)
  pub by_day : ChangeAllowed (held_change day)
  pub by_night : ChangeAllowed (held_change night)

-- of a study's marks, and of the two in a layout; lines that are marked as empty have none
abbrev pub StudyAllowed : Lines → Type 0
StudyAllowed x = IfSome x (λ (plan : Plan). MarksAllowed plan (own_marks plan))

pub record LayoutAllowed (x : Layout Lines) : Type 0 where
  pub altered : StudyAllowed x.altered
  pub other : StudyAllowed x.other

-- of all four, and of the combinations of what they report
pub record EntitlementAllowed (earlier later : Layout Lines) : Type 0 where
  pub before : LayoutAllowed earlier
  pub after : LayoutAllowed later
  pub combinations : (p : Period) → ChangeAllowed (change_in p earlier later)

-- of any four studies, each with its mark
pub record EntitlementAnswered (before after : Layout Lines) (r : Result Entitlement Refusal) : Type 0 where
  pub answer : r ≡ entitlement_of before after
  pub allowed : EntitlementAllowed before after
