-- What silence means for a period, condition by condition, and that a study marked as empty is not read (02, L2). Proved as `silence_means` in proofs/Silence.antt.
-- Assumes nothing.
use Rattle.std.specs.Prelude.{◌≡◌, Bool, true, false, cond, List, ℤ, Some, None}
use Rattle.decibel.specs.declared.Level.{Level}
use Rattle.decibel.specs.declared.Level.TheVariants.{Silent, Figure}
use Rattle.energy.specs.declared.Total.{Total}
use Rattle.figures.specs.declared.Period.{Period}
use Rattle.study.specs.Plan.{Plan, empty_plan}
use Rattle.study.specs.Add.{ours}
use Rattle.study.specs.Run.{Addition, run}
use Rattle.entitlement.specs.declared.Layout.{Layout}
use Rattle.entitlement.specs.Conditions.{combined, unmarked, period_by, period_of}
use Rattle.entitlement.specs.Entitlement.{Lines, reported_in, entitlement_of, held}

-- lines as 02 has them, a study with its mark; what is given of them
pub record Marked : Type 0 where
  pub empty : Bool
  pub study : Plan

abbrev pub given : Marked → Lines
given x = cond x.empty None (Some x.study)

abbrev pub layout_given : Layout Marked → Layout Lines
layout_given x = record { altered = given x.altered; other = given x.other }

-- the same lines, with nothing in a study that is marked as empty
abbrev pub as_read : Marked → Marked
as_read x = record { empty = x.empty; study = cond x.empty empty_plan x.study }

abbrev pub layout_as_read : Layout Marked → Layout Marked
layout_as_read x = record { altered = as_read x.altered; other = as_read x.other }

pub record SilenceMeans : Type 0 where
  -- a study that additions made reports a level that counts as it is, whatever was refused among them
  pub reported_held : (p : Period) (empty : Bool) (additions : List Addition) → let l = reported_in p (given (record { empty = empty; study = run ours additions })) in held l ≡ l
  -- and such a level beside a silent one is itself, unmarked
  pub beside_silent : (l : Level) → held l ≡ l → (combined l Silent ≡ unmarked l) × (combined Silent l ≡ unmarked l)
  -- two levels combined are silent only where both are
  pub both_silent : (a b : Level) → (combined a b).level ≡ Silent → (a ≡ Silent) × (b ≡ Silent)
  -- where the relevant level is silent, no condition holds, whatever the others are
  pub relevant_silent : (p : Period) (prevailing relevant : Total) (other_after : Level) → relevant.level ≡ Silent
      → period_by p prevailing relevant other_after ≡ record { prevailing = prevailing; relevant = relevant; reaches = false; rises = false; contributes = false; entitled = false }
  -- a figure rises above a silent prevailing level, however low it is
  pub prevailing_silent : (p : Period) (prevailing relevant : Total) (other_after : Level) (f : ℤ) → prevailing.level ≡ Silent → relevant.level ≡ Figure f
      → (period_by p prevailing relevant other_after).rises ≡ true
  -- and the altered lines contribute where the other lines after are silent
  pub other_silent : (p : Period) (prevailing relevant : Total) (f : ℤ) → relevant.level ≡ Figure f → (period_by p prevailing relevant Silent).contributes ≡ true
  -- where the altered lines after are silent, they contribute nothing, so the period is not entitled
  pub altered_silent : (p : Period) (before : Layout Level) (l : Level) → held l ≡ l → (period_of p (record { before = before; after = record { altered = Silent; other = l } })).contributes ≡ false
  -- what a study marked as empty holds makes no difference
  pub empty_unread : (before after : Layout Marked) → entitlement_of (layout_given before) (layout_given after) ≡ entitlement_of (layout_given (layout_as_read before)) (layout_given (layout_as_read after))
