-- A faster train is no quieter: an entry's level never falls where its speed rises, from 1 to 300 km/h.
-- Assumes nothing.
use mathlib.Core.Path.{◌≡◌, refl, sym, ap, ◌∙◌, subst}
use mathlib.Core.Bool.{Bool, true, false}
use mathlib.Core.List.{List, [], ◌∷◌}
use Prim.Native.Nat.{ℕ, zero, suc, ◌≤◌}
use native.Mathlib.Omega.{arith}
use lib.IntN.{ℤ, pos, ◌+ℤ◌}
use lib.ListN.{length, set, take, length-set}
use lib.Seq.{take_all}
use lib.Signed.{◌≤ℤ◌}
use Rattle.decibel.specs.declared.Level.{Level}
use Rattle.decibel.specs.declared.Level.TheVariants.{Silent}
use Rattle.decibel.proofs.Ints.{add_is, is_le, ints}
use Rattle.energy.specs.Total.{heard}
use Rattle.energy.specs.Mark.{total_of}
use Rattle.energy.specs.Rising.{CellsRise, last, cell, LevelAtMost}
use Rattle.energy.proofs.Order.{le_true}
use Rattle.energy.proofs.Rising.{cells_rise}
use Rattle.figures.specs.declared.Train.{Train}
use Rattle.figures.specs.declared.Period.{Period}
use Rattle.figures.specs.declared.Period.TheVariants.{Day, Night}
use Rattle.figures.specs.Rules.{least_speed, most_speed, row_kept, speed_kept, vehicles_kept, trains_kept, train_check}
use Rattle.emission.specs.Rolling.{rolling_tenths}
use Rattle.emission.specs.Vehicles.{vehicles_fence}
use Rattle.emission.specs.Trains.{trains_in, sounds, trains_fence}
use Rattle.emission.specs.Emission.{raised, emission_of}
use Rattle.emission.proofs.Emission.{train_tenths, emits_figure, emits_none, refused_silent, faster_louder}
use Rattle.study.specs.Add.{ours}
use Rattle.request.specs.Levels.{cell_of}
use Rattle.request.specs.Request.{cell_in}
use Rattle.speeds.specs.Speeds.{at_speed}
use Rattle.speeds.specs.Private.{total_at}
use Rattle.figures.specs.Refusal.{Check}
use Rattle.std.specs.Prelude.{Ok, Err}

-- the total of some cells with one of them changed
abbrev pub total_with : List ℤ → ℕ → ℤ → Level
total_with cells i c = (total_of (heard (set cells i c))).level

-- ---- one train at two speeds

plus_under : (a b c : ℤ) → a ≤ℤ b → (c +ℤ a) ≤ℤ (c +ℤ b)
plus_under a b c h = omega (arith, ints, add_is c a, add_is c b)

same-is-most : (a b : ℤ) → a ≡ b → a ≤ℤ b
same-is-most a b e = subst (λ (x : ℤ). a ≤ℤ x) e (is_le a a (omega arith))

-- a speed from 1 to 300 km/h is kept, whatever the train
pub speed_kept_lem : (t : Train) (v : ℕ) → least_speed ≤ v → v ≤ most_speed → speed_kept (at_speed v t) ≡ true
unfolding speed_kept
speed_kept_lem t v low high = rw (le_true (pos least_speed) (pos v) (is_le (pos least_speed) (pos v) (omega arith)), le_true (pos v) (pos most_speed) (is_le (pos v) (pos most_speed) (omega arith))) refl

-- and changes nothing in when it runs
pub sounds_at_lem : (t : Train) (v : ℕ) (p : Period) → sounds p (at_speed v t) ≡ sounds p t
unfolding sounds trains_in
sounds_at_lem t v Day = refl
sounds_at_lem t v Night = refl

module _ (t : Train) (v w : ℕ) (low : least_speed ≤ v) (order : v ≤ w) (high : w ≤ most_speed) where
  abbrev slow : Train
  slow = at_speed v t

  abbrev fast : Train
  fast = at_speed w t

  -- both are judged alike
  check_same : train_check slow ≡ train_check fast
  unfolding train_check row_kept vehicles_kept trains_kept
  check_same = rw (speed_kept_lem t v low (omega arith), speed_kept_lem t w (omega arith) high) refl

  sounds_same : (p : Period) → sounds p slow ≡ sounds p fast
  sounds_same p = sounds_at_lem t v p ∙ sym (sounds_at_lem t w p)

  -- no step but the speed's is another
  tenths_rise : (p : Period) → train_tenths p slow ≤ℤ train_tenths p fast
  unfolding vehicles_fence rolling_tenths trains_fence trains_in
  tenths_rise Day = faster_louder Day slow fast order refl refl refl
  tenths_rise Night = faster_louder Night slow fast order refl refl refl

  pub cell_rises : (p : Period) (tenths : ℤ) → cell_in p tenths slow ≤ℤ cell_in p tenths fast
  unfolding cell_of raised
  cell_rises p tenths = by_check (train_check slow) refl
    where
      -- the cells, from what is emitted
      cell_by : Level → ℤ
      cell_by l = cell_of (raised tenths l)

      by_sound : train_check slow ≡ Ok tt → (b : Bool) → sounds p slow ≡ b → cell_in p tenths slow ≤ℤ cell_in p tenths fast
      by_sound et true e =
          rw (emits_figure p slow et e, emits_figure p fast (sym check_same ∙ et) (sym (sounds_same p) ∙ e)) (plus_under _ _ tenths (tenths_rise p))
      by_sound et false e =
          same-is-most _ _ (ap cell_by (emits_none p slow et e ∙ sym (emits_none p fast (sym check_same ∙ et) (sym (sounds_same p) ∙ e))))

      by_check : (x : Check) → train_check slow ≡ x → cell_in p tenths slow ≤ℤ cell_in p tenths fast
      by_check (Ok _) et = by_sound et (sounds p slow) refl
      by_check (Err k) et = same-is-most _ _ (ap cell_by (refused_silent p slow et ∙ sym (refused_silent p fast (sym check_same ∙ et))))

-- ---- a train that does not run in the period

pub silent_train : (p : Period) (t : Train) → sounds p t ≡ false → emission_of p t ≡ Silent
silent_train p t none = go (train_check t) refl
  where
    go : (c : Check) → train_check t ≡ c → emission_of p t ≡ Silent
    go (Ok _) e = emits_none p t e none
    go (Err k) e = refused_silent p t e

-- is silent at every speed
pub silent_at : (p : Period) (t : Train) → sounds p t ≡ false → (v : ℕ) → emission_of p (at_speed v t) ≡ Silent
silent_at p t none v = silent_train p (at_speed v t) (sounds_at_lem t v p ∙ none)

-- ---- the total with it

-- of two speeds from 1 to 300 km/h the higher has no lower total
abbrev pub Rising : (ℕ → Level) → Type 0
Rising total = (v w : ℕ) → least_speed ≤ v → v ≤ w → w ≤ most_speed → LevelAtMost (total v) (total w)

cells_same : (cells : List ℤ) → CellsRise cells cells
cells_same [] = last
cells_same (c ∷ cs) = cell (is_le c c (omega arith)) (cells_same cs)

one_rises : (cells : List ℤ) (i : ℕ) (a b : ℤ) → a ≤ℤ b → CellsRise (set cells i a) (set cells i b)
one_rises [] i a b h = last
one_rises (c ∷ cs) zero a b h = cell h (cells_same cs)
one_rises (c ∷ cs) (suc i) a b h = cell (is_le c c (omega arith)) (one_rises cs i a b h)

pub changed_rises : (cells : List ℤ) (i : ℕ) (a b : ℤ) → length cells ≤ ours.entries → a ≤ℤ b → LevelAtMost (total_with cells i a) (total_with cells i b)
changed_rises cells i a b few h =
    let whole : (c : ℤ) → take ours.entries (set cells i c) ≡ set cells i c = λ c. take_all ours.entries (set cells i c) (omega (arith, length-set cells i c)) in
    rw (whole a, whole b) at (cells_rise (one_rises cells i a b h))

-- of the entry at a place, at one speed and at a higher one
pub speed_rises : (p : Period) (cells : List ℤ) (i : ℕ) (tenths : ℤ) (t : Train) → length cells ≤ ours.entries → Rising (total_at p cells i tenths t)
speed_rises p cells i tenths t few v w low order high = changed_rises cells i _ _ few (cell_rises t v w low order high p tenths)
