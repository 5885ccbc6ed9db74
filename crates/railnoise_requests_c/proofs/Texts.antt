-- What one text gives, and none.
-- Assumes nothing.
use mathlib.Core.Path.{◌≡◌, refl, ap}
use mathlib.Core.Bool.{Bool, true, false, cond}
use mathlib.Core.List.{List}
use Prim.Native.Nat.{ℕ}
use borrow.Author.Tests.{lt-ltb}
use lib.IntN.{ℤ}
use lib.ListN.{length}
use Rattle.std.specs.Prelude.{Some, None, Ok}
use Rattle.decibel.specs.declared.Level.TheVariants.{Silent}
use Rattle.study.specs.Add.{ours}
use Rattle.text.specs.Text.{read_text}
use Rattle.text.specs.Answer.{plan_in, TextAnswered}
use Rattle.text.proofs.EnoughCells.{accepted_by, results_are}
use Rattle.text.proofs.Runs.{text_held}
use Rattle.request.specs.declared.PeriodResult.{PeriodResult}
use Rattle.figures.specs.declared.Periods.{Periods}
use Rattle.text.proofs.Counted.{accepted_text_entry}
use Rattle.entitlement.specs.Entitlement.{reported_in, entries_kept}
use Rattle.entitlement.specs.Private.{Few}
use Rattle.railnoise_requests_c.specs.Entitlement.{Source, source_check, given_lines}
use Rattle.railnoise_requests_c.specs.Private.{source_of, TextGives}

-- ---- as many entries as a study may hold

pub lines_few : (s : Source) → Few (given_lines s)
unfolding given_lines
lines_few s = go s.empty
  where
    go : (b : Bool) → Few (cond b None (Some (plan_in s.text)))
    go true = tt
    go false = (text_held ours s.text).total

-- ---- an accepted text has an entry, so lines that are not refused keep the line of 23

pub accepted-kept : (s : Source) → source_check s ≡ Ok tt → entries_kept (given_lines s) ≡ true
unfolding source_check given_lines entries_kept
accepted-kept s = go s.empty
  where
    go : (b : Bool) → cond b (Ok tt) (read_text ours s.text).check ≡ Ok tt → entries_kept (cond b None (Some (plan_in s.text))) ≡ true
    go true e = refl
    go false e = lt-ltb 0 (length (plan_in s.text).entries) (accepted_text_entry ours s.text e)

-- ---- one text

pub none_gives : TextGives (source_of None) (record { day = Silent; night = Silent })
unfolding source_check given_lines reported_in
none_gives = record { accepted = refl; day = refl; night = refl }

-- of the levels that it is answered with
pub text_gives : (text : List ℕ) {before after : List ℤ} {both : Periods PeriodResult} → TextAnswered text before after (Ok both) → length before ≡ 192
    → TextGives (source_of (Some text)) (record { day = both.day.level; night = both.night.level })
unfolding source_check given_lines reported_in
text_gives text q room =
    let same = results_are text q room refl in
    record { accepted = accepted_by text q room refl; day = ap (λ (r : Periods PeriodResult). r.day.level) same; night = ap (λ (r : Periods PeriodResult). r.night.level) same }
