-- What contracts of this crate's private functions cite: what one study gives, and the two of a layout.
-- Assumes nothing.
use Rattle.std.specs.Prelude.{◌≤◌, length, IfSome, Result, Ok, Err}
use Rattle.decibel.specs.declared.Level.{Level}
use Rattle.figures.specs.declared.Period.TheVariants.{Day, Night}
use Rattle.figures.specs.declared.Periods.{Periods}
use Rattle.figures.specs.declared.Refusal.{Refusal}
use Rattle.figures.specs.declared.Refusal.TheVariants.{NoEntry}
use Rattle.figures.specs.Refusal.{unless, answered}
use Rattle.study.specs.Plan.{Plan}
use Rattle.study.specs.Add.{ours}
use Rattle.entitlement.specs.declared.Layout.{Layout}
use Rattle.entitlement.specs.Entitlement.{Lines, reported_in, entries_kept}

-- as many entries as a study may hold
abbrev pub Few : Lines → Type 0
Few x = IfSome x (λ (plan : Plan). length plan.entries ≤ ours.entries)

pub record LayoutFew (x : Layout Lines) : Type 0 where
  pub altered : Few x.altered
  pub other : Few x.other

-- 23, or the level of each period
unfoldable pub report : Lines → Result (Periods Level) Refusal
report x = answered (unless (entries_kept x) NoEntry (Ok tt)) (record { day = reported_in Day x; night = reported_in Night x })

-- the levels of two that report some
abbrev pub both_reports : Result (Periods Level) Refusal → Result (Periods Level) Refusal → Result (Periods (Layout Level)) Refusal
both_reports (Ok altered) (Ok other) = Ok (record { day = record { altered = altered.day; other = other.day }; night = record { altered = altered.night; other = other.night } })
both_reports (Ok altered) (Err r) = Err r
both_reports (Err r) other = Err r

unfoldable pub layout_report : Layout Lines → Result (Periods (Layout Level)) Refusal
layout_report x = both_reports (report x.altered) (report x.other)
