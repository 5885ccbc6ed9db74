-- Demand 3: how far rounding carries a total, for every list of additions.
-- Assumes nothing.
use mathlib.Core.Path.{◌≡◌, refl, ap}
use mathlib.Core.Bool.{true, false≢true}
use mathlib.Core.List.{List, [], ◌∷◌}
use Prim.Native.Nat.{ℕ, ◌≤◌, ◌<◌}
use native.Mathlib.Nat.{le_refl, le_trans, zero-lt-suc}
use lib.IntN.{ℤ}
use lib.ListN.{length}
use borrow.Author.Tests.{lt-ltb, le-leb}
use Rattle.energy.proofs.Accurate.{accurate, accurate_sharp}
use Rattle.figures.specs.declared.Period.{Period}
use Rattle.figures.specs.declared.Period.TheVariants.{Day, Night}
use Rattle.figures.specs.Refusal.{unless, check_of, answered}
use Rattle.figures.specs.Periods.{in_period}
use Rattle.study.specs.declared.Entry.{Entry}
use Rattle.study.specs.Plan.{Plan}
use Rattle.study.specs.Add.{Limits, ours}
use Rattle.study.specs.Run.{Addition, run, accepted}
use Rattle.request.specs.Levels.{Marks, result_by}
use Rattle.request.specs.Request.{Answer, cells_needed, request_check, levels_check, answer_of, answer_by, Answered, result_in}
use Rattle.request.specs.Accuracy.{has_trains, Band, demanded, sharpest, AccurateToBare, AccurateRuns, Demand3, Demand3Sharp}
use Rattle.study.proofs.Plans.{accepted-held}
use Rattle.study.proofs.Runs.{run-accepted}
use Rattle.request.proofs.Entries.{TotalsKeep, result_accurate}
use Rattle.std.specs.Prelude.{Ok}

some_entry : (p : Period) (es : List Entry) → has_trains p es ≡ true → 0 < length es
unfolding has_trains
some_entry p [] h = absurd (false≢true h)
some_entry p (e ∷ es) h = zero-lt-suc (length es)

-- limits that a study has room for
pub record LimitsFit (l : Limits) : Type 0 where
  pub segments : l.segments ≤ ours.segments
  pub entries : l.entries ≤ ours.entries

-- a request with an entry and enough cells is answered
pub request_answered : (plan : Plan) (n : ℕ) → 0 < length plan.entries → cells_needed (length plan.entries) ≤ n → levels_check plan n ≡ Ok tt
unfolding levels_check request_check unless
request_answered plan n some enough = rw (lt-ltb 0 (length plan.entries) some, le-leb (cells_needed (length plan.entries)) n enough) refl

result_in_lem : (p : Period) (plan : Plan) (m : Marks) → result_in p (answer_by (Ok tt) plan m) ≡ result_by p plan m
unfolding result_in answer_of answered in_period
result_in_lem Day plan m = refl
result_in_lem Night plan m = refl

-- At any limits that fit, and in every band that totals keep to.
module _ (band : Band) (kept : TotalsKeep band) (l : Limits) (fit : LimitsFit l) where
  in_band : AccurateRuns band l
  unfolding answer_of answered check_of
  in_band additions p trains m before after r enough by =
      let plan = accepted l additions in
      let held = accepted-held l additions in
      let check : levels_check plan (length before) ≡ Ok tt = request_answered plan (length before) (some_entry p plan.entries trains) enough in
      let whole : r ≡ answer_by (Ok tt) plan m = rw (run-accepted l additions, check) at by.answer in (
        ap check_of whole,
        rw (whole, result_in_lem p plan m) (result_accurate band kept p plan m held (le_trans held.total fit.entries) trains),
      )

pub runs_accurate : (l : Limits) → LimitsFit l → AccurateRuns demanded l
runs_accurate = in_band demanded (λ limit mark b h fs rs es. accurate limit mark b h es)

pub runs_sharp : (l : Limits) → LimitsFit l → AccurateRuns sharpest l
runs_sharp = in_band sharpest (λ limit mark b h fs rs es. accurate_sharp limit mark b h es)

-- Our own limits, so that no premise on sizes is left.
pub ours_fit : LimitsFit ours
ours_fit = record { segments = le_refl ours.segments; entries = le_refl ours.entries }

pub demand_3 : Demand3
demand_3 = runs_accurate ours ours_fit

pub demand_3_sharp : Demand3Sharp
demand_3_sharp = runs_sharp ours ours_fit

-- The same of what `levels` ensures, by the program's own marks.
pub levels_accurate : (l : Limits) → LimitsFit l → (additions : List Addition) (p : Period) → has_trains p (accepted l additions).entries ≡ true →
    (before after : List ℤ) (r : Answer) → cells_needed (length (accepted l additions).entries) ≤ length before → Answered (run l additions) before after r →
    AccurateToBare demanded p (accepted l additions) (result_in p r)
levels_accurate l fit additions p trains before after r enough a = (runs_accurate l fit additions p trains _ before after r enough a.by).1
