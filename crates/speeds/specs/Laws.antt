-- What a planner can rely on beside the equation (02, L6). Proved as `speed_laws` in proofs/Laws.antt.
-- Assumes nothing.
use Rattle.std.specs.Prelude.{◌≡◌, ◌⊎◌, ◌↔◌, true, false, List, ℕ, ◌-◌, ◌≤◌, ◌<◌, ℤ, pos, ◌+ℤ◌, ◌*ℤ◌, length, get_or, ◌≤ℤ◌, Ok, Err}
use Rattle.energy.specs.Rising.{LevelAtMost}
use Rattle.figures.specs.declared.Period.{Period}
use Rattle.figures.specs.declared.Refusal.{Refusal}
use Rattle.figures.specs.declared.Refusal.TheVariants.{EntryNumber, NoSpeed}
use Rattle.figures.specs.Rules.{least_speed, most_speed}
use Rattle.emission.specs.Speed.{least_counted}
use Rattle.emission.specs.Trains.{sounds}
use Rattle.study.specs.Plan.{Plan, no_entry}
use Rattle.study.specs.Add.{ours}
use Rattle.study.specs.Run.{Addition, accepted}
use Rattle.request.specs.Accuracy.{Bare, has_trains}
use Rattle.speeds.specs.Speeds.{with_speed, own_total, stays_below, speed_of, speed_answer}

-- the number, from 1, is that of one of the plan's entries
abbrev pub IsEntry : Plan → ℕ → Type 0
IsEntry plan entry = (1 ≤ entry) × (entry ≤ length plan.entries)

-- no more entries than a study may hold
abbrev pub FewEntries : Plan → Type 0
FewEntries plan = length plan.entries ≤ ours.entries

-- with the entry at a speed the period's total stays below the limit
abbrev pub BelowAt : Plan → ℕ → Period → ℤ → ℕ → Type 0
BelowAt plan entry p limit v = stays_below limit (own_total p (with_speed plan (entry - 1) v)) ≡ true

-- the speed answered is one from 20 to 300 km/h at which the total stays below, and at no higher one to 300 it does
pub record Highest (plan : Plan) (entry : ℕ) (p : Period) (limit : ℤ) (v : ℕ) : Type 0 where
  pub least : least_counted ≤ v
  pub most : v ≤ most_speed
  pub below : BelowAt plan entry p limit v
  pub none_higher : (w : ℕ) → v < w → w ≤ most_speed → BelowAt plan entry p limit w → ⊥

-- there is one bare level at a speed. Where the total stays below the limit, as at the answered speed and every lower one, it lies at least 0.14 dB below it;
-- where it does not, as at every higher one, at most 0.96 dB below it
pub record BareAt (plan : Plan) (entry : ℕ) (p : Period) (limit : ℤ) (v : ℕ) : Type 0 where
  pub bare : ℤ
  pub is : Bare p (with_speed plan (entry - 1) v) bare
  pub only : (b : ℤ) → Bare p (with_speed plan (entry - 1) v) b → b ≡ bare
  pub below : BelowAt plan entry p limit v → (bare +ℤ pos 140000) ≤ℤ (pos 1000000 *ℤ limit)
  pub above : (BelowAt plan entry p limit v → ⊥) → (pos 1000000 *ℤ limit) ≤ℤ (bare +ℤ pos 960000)

-- with an entry number of 0, of which nothing is answered, these speak of the first entry
pub record SpeedLaws : Type 0 where
  -- 25 exactly where the number is of no entry, so for every number where there is none: in place of 23
  pub entry_number : (plan : Plan) (entry : ℕ) (p : Period) (limit : ℤ) → (speed_answer plan entry p limit ≡ Err EntryNumber) ↔ (IsEntry plan entry → ⊥)
  -- then 26 exactly where the total stays below at no speed from 20 to 300 km/h
  pub no_speed : (plan : Plan) (entry : ℕ) (p : Period) (limit : ℤ) → (speed_answer plan entry p limit ≡ Err NoSpeed)
      ↔ (IsEntry plan entry × ((v : ℕ) → least_counted ≤ v → v ≤ most_speed → BelowAt plan entry p limit v → ⊥))
  -- else the highest such speed
  pub answered : (plan : Plan) (entry : ℕ) (p : Period) (limit : ℤ) (v : ℕ) → speed_answer plan entry p limit ≡ Ok v → IsEntry plan entry × Highest plan entry p limit v
  -- a refusal is one of these two, with speed 0
  pub refused : (plan : Plan) (entry : ℕ) (p : Period) (limit : ℤ) (why : Refusal) → let r = speed_answer plan entry p limit in r ≡ Err why → ((why ≡ EntryNumber) ⊎ (why ≡ NoSpeed)) × (speed_of r ≡ 0)
  -- of no more entries than a study may hold: the total never falls where the speed rises, from 1 to 300 km/h
  pub rises : (plan : Plan) → FewEntries plan → (entry : ℕ) (p : Period) (v w : ℕ) → least_speed ≤ v → v ≤ w → w ≤ most_speed → LevelAtMost (own_total p (with_speed plan (entry - 1) v)) (own_total p (with_speed plan (entry - 1) w))
  -- so every lower speed is safe too, from 1 km/h on: at each the total stays below the limit
  pub lower : (plan : Plan) → FewEntries plan → (entry : ℕ) (p : Period) (limit : ℤ) (v : ℕ) → speed_answer plan entry p limit ≡ Ok v →
      (w : ℕ) → least_speed ≤ w → w ≤ v → BelowAt plan entry p limit w
  -- and 26 is given exactly where it does not at 20 km/h
  pub slowest : (plan : Plan) → FewEntries plan → (entry : ℕ) (p : Period) (limit : ℤ) → IsEntry plan entry → (speed_answer plan entry p limit ≡ Err NoSpeed) ↔ (BelowAt plan entry p limit least_counted → ⊥)
  -- the speed that is typed for the entry makes no difference
  pub typed : (plan : Plan) (entry : ℕ) (p : Period) (limit : ℤ) (v : ℕ) → speed_answer (with_speed plan (entry - 1) v) entry p limit ≡ speed_answer plan entry p limit
  -- an entry that has no trains in the period is answered with 300 km/h, or 26
  pub silent_entry : (plan : Plan) (entry : ℕ) (p : Period) (limit : ℤ) → sounds p (get_or plan.entries (entry - 1) no_entry).train ≡ false → (v : ℕ) →
      speed_answer plan entry p limit ≡ Ok v → v ≡ most_speed
  -- where no entry has, 300 km/h at every limit
  pub silent_period : (plan : Plan) (entry : ℕ) (p : Period) (limit : ℤ) → IsEntry plan entry → has_trains p plan.entries ≡ false → speed_answer plan entry p limit ≡ Ok most_speed
  -- how far rounding carries the answer: demand 3 at each speed from 1 to 300 km/h, for what every list of additions, refused ones in it, has accepted, and
  -- each period in which an accepted entry has trains. It is the plan of the study that the list makes (`run-accepted` of crates/study/proofs/Runs.antt)
  pub bare : (additions : List Addition) (entry : ℕ) (p : Period) (limit : ℤ) (v : ℕ) → let plan = accepted ours additions in has_trains p plan.entries ≡ true → least_speed ≤ v → v ≤ most_speed → BareAt plan entry p limit v
