-- The answer from four studies: 23, or what their levels give.
-- Assumes nothing.
use mathlib.Core.Path.{◌≡◌, refl, sym, ap, ◌∙◌, subst}
use mathlib.Core.Bool.{◌&&◌}
use Rattle.decibel.specs.declared.Level.{Level}
use Rattle.figures.specs.declared.Period.{Period}
use Rattle.figures.specs.declared.Period.TheVariants.{Day, Night}
use Rattle.figures.specs.declared.Periods.{Periods}
use Rattle.figures.specs.declared.Refusal.{Refusal}
use Rattle.figures.specs.Refusal.{number_of, check_number, check_of, first_refused}
use Rattle.figures.specs.Refusal as F
use Rattle.figures.specs.Rules.{lowest_number}
use Rattle.figures.proofs.Numbers.{unless_number, check_of-answered}
use Rattle.entitlement.specs.declared.Layout.{Layout}
use Rattle.entitlement.specs.declared.Change.{Change}
use Rattle.entitlement.specs.declared.Entitlement.{Entitlement}
use Rattle.entitlement.specs.Conditions.{ChangeAllowed}
use Rattle.entitlement.specs.Entitlement.{Lines, entries_kept, levels_in, change_in, entitlement_by, all_kept, entitlement_check, entitlement_number, entitlement_of, held_change, EntitlementAnsweredBy, EntitlementAllowed, EntitlementAnswered}
use Rattle.entitlement.specs.Private.{LayoutFew, layout_report}
use Rattle.entitlement.proofs.Combined.{change_allowed}
use Rattle.entitlement.proofs.Reports.{reported_held, study_allowed, checks_together, layout_check, layout_levels}
use Rattle.std.specs.Prelude.{Result, Ok, Err}

-- ---- from reported levels

pub house_is : (day night : Change) {r : Entitlement} → r ≡ entitlement_by (held_change day) (held_change night) → EntitlementAnsweredBy day night r
house_is day night e = record { answer = e; by_day = change_allowed day; by_night = change_allowed night }

-- ---- from studies

module _ (before after : Layout Lines) (few : LayoutFew before) (room : LayoutFew after) where
  -- what they report, working cells hold as it is
  change_held : (p : Period) → held_change (change_in p before after) ≡ change_in p before after
  unfolding held_change change_in levels_in
  change_held p = rw (reported_held p before.altered few.altered, reported_held p before.other few.other, reported_held p after.altered room.altered, reported_held p after.other room.other)

  -- 01 allows all the marks
  pub all_allowed : EntitlementAllowed before after
  all_allowed =
      record {
        before = record { altered = study_allowed before.altered few.altered; other = study_allowed before.other few.other };
        after = record { altered = study_allowed after.altered room.altered; other = study_allowed after.other room.other };
        combinations = λ p. subst ChangeAllowed (change_held p) (change_allowed (change_in p before after));
      }

  number_is : check_number (entitlement_check before after) ≡ entitlement_number before after
  unfolding entitlement_check entitlement_number lowest_number check_number number_of
  number_is = simp unless_number

  -- an answer, with its number
  answered : {r : Result Entitlement Refusal} → r ≡ entitlement_of before after → EntitlementAnswered before after r × (check_number (check_of r) ≡ entitlement_number before after)
  unfolding entitlement_of
  answered is = (record { answer = is; allowed = all_allowed }, ap (λ (a : Result Entitlement Refusal). check_number (check_of a)) is ∙ ap check_number (check_of-answered _ _) ∙ number_is)

  -- from the levels of studies that are all given
  pub given_answer : {r : Entitlement} → entitlement_check before after ≡ Ok tt → EntitlementAnsweredBy (change_in Day before after) (change_in Night before after) r → Ok r ≡ entitlement_of before after
  unfolding entitlement_of F.answered
  given_answer e q = rw (e, q.answer, change_held Day, change_held Night)

  module _ {old new : Result (Periods (Layout Level)) Refusal} (x : old ≡ layout_report before) (y : new ≡ layout_report after) where
    check_is : entitlement_check before after ≡ first_refused (check_of old) (check_of new)
    unfolding entitlement_check all_kept
    check_is =
        sym (checks_together (entries_kept before.altered && entries_kept before.other) (entries_kept after.altered && entries_kept after.other) (rw x (layout_check before)) (rw y (layout_check after)) refl)

    -- 23 of either
    pub refused_answer_lem : {why : Refusal} {r : Result Entitlement Refusal} → first_refused (check_of old) (check_of new) ≡ Err why → r ≡ Err why
        → EntitlementAnswered before after r × (check_number (check_of r) ≡ entitlement_number before after)
    unfolding entitlement_of F.answered
    refused_answer_lem f q = answered (q ∙ rw (check_is, f))

    -- or what the levels of all four give
    pub accepted-answer : {a b : Periods (Layout Level)} {r : Entitlement} → old ≡ Ok a → new ≡ Ok b
        → EntitlementAnsweredBy (record { before = a.day; after = b.day }) (record { before = a.night; after = b.night }) r
        → EntitlementAnswered before after (Ok r) × (check_number (check_of (Ok r)) ≡ entitlement_number before after)
    unfolding change_in first_refused check_of
    accepted-answer {a} {b} {r} f g q =
        let levels : EntitlementAnsweredBy (change_in Day before after) (change_in Night before after) r = rw (layout_levels before (sym f ∙ x), layout_levels after (sym g ∙ y)) at q in
        answered (given_answer (check_is ∙ rw (f, g)) levels)
