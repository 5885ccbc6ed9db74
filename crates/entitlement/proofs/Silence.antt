-- What silence means for a period, condition by condition, and that a study marked as empty is not read.
-- Assumes nothing.
use mathlib.Core.Path.{◌≡◌, refl, sym, ap, ◌∙◌, subst}
use mathlib.Core.List.{List}
use mathlib.Core.Bool.{Bool, true, false, cond}
use native.Mathlib.Omega.{arith}
use lib.IntN.{ℤ, pos, negsuc, ◌+ℤ◌}
use lib.Signed.{lt_z, ◌≤ℤ◌}
use Rattle.decibel.proofs.Ints.{add_is, ints}
use Rattle.decibel.specs.declared.Level.{Level}
use Rattle.decibel.specs.declared.Level.TheVariants.{Silent, Figure}
use Rattle.energy.specs.Total.{total_by}
use Rattle.energy.specs.Mark.{total_of}
use Rattle.energy.specs.declared.Total.{Total}
use Rattle.energy.proofs.Order.{le_false, not_less}
use Rattle.energy.proofs.Alone.{no_figure, total_alone}
use Rattle.figures.specs.declared.Period.{Period}
use Rattle.request.specs.Levels.{figures, met_by}
use Rattle.study.specs.Plan.{empty_plan}
use Rattle.study.specs.Add.{ours}
use Rattle.study.specs.Run.{Addition, run}
use Rattle.study.proofs.Plans.{accepted-held}
use Rattle.study.proofs.Runs.{run-accepted}
use Rattle.entitlement.specs.declared.Layout.{Layout}
use Rattle.entitlement.specs.Conditions.{combined, unmarked, exceeds, period_by, period_of}
use Rattle.entitlement.specs.Entitlement.{reported_in, entitlement_of, held}
use Rattle.entitlement.proofs.Reports.{reported_held}
use Rattle.entitlement.specs.Silence.{Marked, given, layout_given, as_read, layout_as_read, SilenceMeans}
use Rattle.std.specs.Prelude.{Some, None}

-- ---- a level alone

-- a figure that is held as it is lies from -200 to 200 dB
held_lies : (f : ℤ) → held (Figure f) ≡ Figure f → (negsuc 1999 ≤ℤ f) × (f ≤ℤ pos 2000)
held_lies f = go (lt_z f (negsuc 1999)) refl (lt_z (pos 2000) f) refl
  where
    go : (a : Bool) → lt_z f (negsuc 1999) ≡ a → (b : Bool) → lt_z (pos 2000) f ≡ b → cond a Silent (Figure (cond b (pos 2000) f)) ≡ Figure f → (negsuc 1999 ≤ℤ f) × (f ≤ℤ pos 2000)
    go true p b q e = no_figure f e
    go false p true q e =
        let same : pos 2000 ≡ f = cc in
        (not_less f (negsuc 1999) p, subst (λ (z : ℤ). z ≤ℤ pos 2000) same (omega (arith, ints)))
    go false p false q e = (not_less f (negsuc 1999) p, not_less (pos 2000) f q)

alone : (l : Level) → held l ≡ l → (combined l Silent ≡ unmarked l) × (combined Silent l ≡ unmarked l)
unfolding combined figures total_of total_by
alone Silent h = (refl, refl)
alone (Figure f) h = let lies = held_lies f h in let e = total_alone f lies.0 lies.1 in (e, e)

both : (a b : Level) → (combined a b).level ≡ Silent → (a ≡ Silent) × (b ≡ Silent)
unfolding combined figures total_of total_by
both Silent Silent e = (refl, refl)
both Silent (Figure g) e = no_figure _ (sym e)
both (Figure f) Silent e = no_figure _ (sym e)
both (Figure f) (Figure g) e = no_figure _ (sym e)

-- a level does not exceed itself
itself : (l : Level) → exceeds l l ≡ false
unfolding exceeds
itself Silent = refl
itself (Figure f) = le_false (f +ℤ pos 10) f (omega (arith, ints, add_is f (pos 10)))

nothing_added : (p : Period) (before : Layout Level) (l : Level) → held l ≡ l → (period_of p (record { before = before; after = record { altered = Silent; other = l } })).contributes ≡ false
unfolding period_of period_by
nothing_added p before l h = ap (λ (t : Total). exceeds t.level l) (alone l h).1 ∙ itself l

run-held : (p : Period) (empty : Bool) (additions : List Addition) → let l = reported_in p (given (record { empty = empty; study = run ours additions })) in held l ≡ l
run-held p true additions = reported_held p None tt
run-held p false additions = reported_held p (Some (run ours additions)) (rw (run-accepted ours additions) (accepted-held ours additions).total)

-- ---- lines as they are read

-- the mark decides before the study is looked at
given_unread : (x : Marked) → given x ≡ given (as_read x)
given_unread x = go x.empty
  where
    go : (b : Bool) → cond b None (Some x.study) ≡ cond b None (Some (cond b empty_plan x.study))
    go true = refl
    go false = refl

layout_unread : (x : Layout Marked) → layout_given x ≡ layout_given (layout_as_read x)
layout_unread x = rw (given_unread x.altered, given_unread x.other)

unread : (before after : Layout Marked) → entitlement_of (layout_given before) (layout_given after) ≡ entitlement_of (layout_given (layout_as_read before)) (layout_given (layout_as_read after))
unread before after = rw (layout_unread before, layout_unread after)

pub silence_means : SilenceMeans
unfolding period_by exceeds met_by
silence_means =
    record {
      reported_held = run-held;
      beside_silent = alone;
      both_silent = both;
      relevant_silent = λ p prevailing relevant other e. rw e;
      prevailing_silent = λ p prevailing relevant other f e g. rw (e, g);
      other_silent = λ p prevailing relevant f e. rw e;
      altered_silent = nothing_added;
      empty_unread = unread;
    }
