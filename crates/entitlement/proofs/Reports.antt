-- What a study with its mark reports, and that it is a level that working cells hold.
-- Assumes nothing.
use mathlib.Core.Path.{◌≡◌, refl, sym, ap, ◌∙◌}
use mathlib.Core.Bool.{Bool, true, false, ◌&&◌}
use mathlib.Core.List.{List, map}
use Prim.Native.Nat.{ℕ, ◌+◌, ◌≤◌}
use native.Mathlib.Omega.{arith}
use borrow.Author.Tests.{le-leb}
use lib.IntN.{ℤ, pos, negsuc}
use lib.Signed.{◌≤ℤ◌}
use lib.ListN.{length}
use Rattle.decibel.specs.declared.Level.{Level}
use Rattle.decibel.specs.declared.Level.TheVariants.{Silent, Figure}
use Rattle.energy.specs.Mark.{total_of}
use Rattle.energy.proofs.Order.{lt_false}
use Rattle.energy.proofs.Alone.{total_lies}
use Rattle.figures.specs.declared.Period.{Period}
use Rattle.figures.specs.declared.Period.TheVariants.{Day, Night}
use Rattle.figures.specs.declared.Refusal.TheVariants.{NoEntry}
use Rattle.figures.specs.Refusal.{unless, first_refused, Check, check_of}
use Rattle.figures.specs.Refusal as F
use Rattle.figures.proofs.Numbers.{check_of-answered}
use Rattle.study.specs.declared.Entry.{Entry}
use Rattle.study.specs.Plan.{Plan}
use Rattle.study.specs.Add.{ours}
use Rattle.request.specs.Levels.{Marks, figures, level_at, ground_marks, own_marks, result_by}
use Rattle.request.specs.Request.{Answer, levels_check, request_check, answer_of, answer_by, Answered}
use Rattle.request.proofs.Totals.{figures-kept, figures_few, figures_loudest}
use Rattle.request.proofs.Results.{own_level, own_allowed}
use Rattle.figures.specs.declared.Periods.{Periods}
use Rattle.figures.specs.declared.Refusal.{Refusal}
use Rattle.entitlement.specs.declared.Layout.{Layout}
use Rattle.entitlement.specs.Entitlement.{Lines, reported_in, levels_in, entries_kept, held, StudyAllowed}
use Rattle.entitlement.specs.Private.{Few, report, both_reports, layout_report}
use Rattle.std.specs.Prelude.{Some, None, Result, Ok, Err}

-- ---- a level that cells hold is held as it is

held_inside : (l : Level) → ((f : ℤ) → l ≡ Figure f → (negsuc 1999 ≤ℤ f) × (f ≤ℤ pos 2000)) → held l ≡ l
held_inside Silent lies = refl
held_inside (Figure f) lies = rw (lt_false f (negsuc 1999) (lies f refl).0, lt_false (pos 2000) f (lies f refl).1)

plan_held : (p : Period) (plan : Plan) → length plan.entries ≤ ours.entries → held (result_by p plan (own_marks plan)).level ≡ (result_by p plan (own_marks plan)).level
plan_held p plan few =
    let g = ground_marks plan in
    let es = plan.entries in
    rw (own_level p plan)
    (held_inside (total_of (figures (map (level_at p plan g) es))).level
    (total_lies (figures (map (level_at p plan g) es)) (figures-kept p plan g es) (omega (arith, figures_few p plan g es)) (figures_loudest p plan g es)))

pub reported_held : (p : Period) (x : Lines) → Few x → held (reported_in p x) ≡ reported_in p x
unfolding reported_in
reported_held p None few = refl
reported_held p (Some plan) few = plan_held p plan few

-- ---- one study

pub study_allowed : (x : Lines) → Few x → StudyAllowed x
study_allowed None few = tt
study_allowed (Some plan) few = own_allowed plan few

pub empty_reports : report None ≡ Ok (record { day = Silent; night = Silent })
unfolding report entries_kept unless reported_in F.answered
empty_reports = refl

-- the levels of what a request answers
abbrev pub levels_from : Answer → Result (Periods Level) Refusal
levels_from (Ok both) = Ok (record { day = both.day.level; night = both.night.level })
levels_from (Err r) = Err r

module _ {plan : Plan} {before after : List ℤ} {es : List Entry} where
  pub study_reports : {r : Answer} → Answered plan before after r → es ≡ plan.entries → length es + length es ≤ length before → report (Some plan) ≡ levels_from r
  unfolding report reported_in entries_kept levels_check request_check unless answer_of F.answered
  study_reports q is room = sym (ap levels_from (rw enough at q.by.answer) ∙ go (unless (entries_kept (Some plan)) NoEntry (Ok tt)))
    where
      n : ℕ
      n = length plan.entries

      m : Marks
      m = own_marks plan

      -- so many cells are enough
      enough : levels_check plan (length before) ≡ unless (entries_kept (Some plan)) NoEntry (Ok tt)
      enough = rw (le-leb (n + n) (length before) (rw is at room))

      go : (check : Check) → levels_from (answer_by check plan m) ≡ F.answered check (record { day = (result_by Day plan m).level; night = (result_by Night plan m).level })
      go (Ok _) = refl
      go (Err r) = refl

-- ---- two

both_given : (a b : Bool) → first_refused (unless a NoEntry (Ok tt)) (unless b NoEntry (Ok tt)) ≡ unless (a && b) NoEntry (Ok tt)
unfolding first_refused unless
both_given true b = refl
both_given false b = refl

pub checks_together : (a b : Bool) {c d e : Check} → c ≡ unless a NoEntry (Ok tt) → d ≡ unless b NoEntry (Ok tt) → e ≡ first_refused c d → e ≡ unless (a && b) NoEntry (Ok tt)
checks_together a b f g h = h ∙ rw (f, g) (both_given a b)

-- a layout reports what refuses the first of the two that is refused
both_check : (altered other : Result (Periods Level) Refusal) → check_of (both_reports altered other) ≡ first_refused (check_of altered) (check_of other)
unfolding check_of first_refused
both_check (Ok a) (Ok o) = refl
both_check (Ok a) (Err r) = refl
both_check (Err r) other = refl

pub layout_check : (x : Layout Lines) → check_of (layout_report x) ≡ unless (entries_kept x.altered && entries_kept x.other) NoEntry (Ok tt)
unfolding layout_report report
layout_check x = checks_together (entries_kept x.altered) (entries_kept x.other) (check_of-answered _ _) (check_of-answered _ _) (both_check (report x.altered) (report x.other))

-- or the levels of both
pub layout_levels : (x : Layout Lines) {levels : Periods (Layout Level)} → Ok levels ≡ layout_report x → levels ≡ record { day = levels_in Day x; night = levels_in Night x }
unfolding layout_report report levels_in F.answered
layout_levels x {levels} = go (unless (entries_kept x.altered) NoEntry (Ok tt)) (unless (entries_kept x.other) NoEntry (Ok tt))
  where
    of : Lines → Periods Level
    of y = record { day = reported_in Day y; night = reported_in Night y }

    go : (a b : Check) → Ok levels ≡ both_reports (F.answered a (of x.altered)) (F.answered b (of x.other)) → levels ≡ record { day = levels_in Day x; night = levels_in Night x }
    go (Ok _) (Ok _) e = cc
    go (Ok _) (Err r) e = cc
    go (Err r) b e = cc
