-- Demand 3: the bare level of what a list of additions has accepted, and how far the reported total lies from it.
-- Assumes nothing.
use Rattle.std.specs.Prelude.{◌≡◌, Bool, true, false, cond, ◌||◌, List, [], ◌∷◌, ℕ, ◌*◌, ◌-◌, ◌≤◌, ℤ, pos, ◌+ℤ◌, length, ◌≤ℤ◌, ◌<ℤ◌, Ok}
use Rattle.decibel.specs.Round.{micro}
use Rattle.decibel.specs.declared.Level.TheVariants.{Figure}
use Rattle.energy.specs.Energy.{added, BareLevel}
use Rattle.figures.specs.declared.Period.{Period}
use Rattle.figures.specs.Refusal.{check_of}
use Rattle.emission.specs.Trains.{sounds}
use Rattle.request.specs.Entry.{entry_fence}
use Rattle.study.specs.declared.Entry.{Entry}
use Rattle.request.specs.declared.PeriodResult.{PeriodResult}
use Rattle.study.specs.Plan.{Plan, segment_at}
use Rattle.study.specs.Add.{Limits, ours}
use Rattle.study.specs.Run.{Addition, run, accepted}
use Rattle.request.specs.Levels.{Marks, limit_of}
use Rattle.request.specs.Request.{Answer, cells_needed, AnsweredBy, result_in}

-- the fences of the entries that have trains in the period, each with its own segment
unfoldable pub fences_of : Period → Plan → List Entry → List ℤ
fences_of p plan [] = []
fences_of p plan (e ∷ es) = cond (sounds p e.train) (entry_fence p (segment_at plan e.segment) e.train ∷ fences_of p plan es) (fences_of p plan es)

-- b is the bare level (01's term) of a plan in a period
unfoldable pub Bare : Period → Plan → ℤ → Type 0
Bare p plan b = BareLevel (added (fences_of p plan plan.entries)) b

-- some entry has trains in the period
unfoldable pub has_trains : Period → List Entry → Bool
has_trains p [] = false
has_trains p (e ∷ es) = sounds p e.train || has_trains p es

-- a band around the bare level, in microdecibels: how far a figure may lie above and below it, and how far under the limit a bare level is always met and never met
pub record Band : Type 0 where
  pub above : ℕ
  pub below : ℕ
  pub always : ℕ
  pub never : ℕ

-- the demand's: 0.46 dB either way; always met from 67.96 by day and 62.96 by night on, never below 67.04 and 62.04
abbrev pub demanded : Band
demanded = record { above = 460000; below = 460000; always = 40000; never = 960000 }

-- what eight steps and a total can carry it, at most
abbrev pub sharpest : Band
sharpest = record { above = 454001; below = 449992; always = 150007; never = 954001 }

-- a period's result is a figure in the band of the bare level b, with a verdict that b settles outside it
pub record AccurateResult (band : Band) (p : Period) (b : ℤ) (r : PeriodResult) : Type 0 where
  pub figure : ℤ
  pub level : r.level ≡ Figure figure
  pub above : micro figure ≤ℤ (b +ℤ pos band.above)
  pub below : b ≤ℤ (micro figure +ℤ pos band.below)
  pub always : pos (1000000 * limit_of p - band.always) ≤ℤ b → r.met ≡ true
  pub never : b <ℤ pos (1000000 * limit_of p - band.never) → r.met ≡ false

-- there is one bare level, and the result is accurate to it
pub record AccurateToBare (band : Band) (p : Period) (plan : Plan) (r : PeriodResult) : Type 0 where
  pub bare : ℤ
  pub is : Bare p plan bare
  pub only : (b : ℤ) → Bare p plan b → b ≡ bare
  pub accurate : AccurateResult band p bare r

-- for every list of additions, refused ones in it, from the empty study; for each period in which an accepted entry has trains; for every choice of marks,
-- so for each that 01 allows; for every request with enough cells, whatever they held, and every answer to it by those marks: it is an answer and no
-- refusal, and the period's result in it is accurate to the bare level of what the list alone has accepted
abbrev pub AccurateRuns : Band → Limits → Type 0
AccurateRuns band l =
    (additions : List Addition) (p : Period) → has_trains p (accepted l additions).entries ≡ true →
    (m : Marks) (before after : List ℤ) (r : Answer) → cells_needed (length (accepted l additions).entries) ≤ length before →
    AnsweredBy (run l additions) m before after r →
    (check_of r ≡ Ok tt) × AccurateToBare band p (accepted l additions) (result_in p r)

-- Demand 3, the one claim, at 01's own limits. Proved as `demand_3` in proofs/Demand3.antt; `runs_accurate` there is the same at any limits up to 24 and 96
abbrev pub Demand3 : Type 0
Demand3 = AccurateRuns demanded ours

-- the sharper claim beside it, proved as `demand_3_sharp`
abbrev pub Demand3Sharp : Type 0
Demand3Sharp = AccurateRuns sharpest ours
