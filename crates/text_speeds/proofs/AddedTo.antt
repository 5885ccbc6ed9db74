-- What a segment adds, from the level of an entry and its train: the rest of the level, and nothing where the entry is silent.
-- Assumes nothing.
use mathlib.Core.Path.{◌≡◌, refl, sym, ap, ◌∙◌}
use mathlib.Core.Bool.{Bool, true, false}
use Prim.Native.Nat.{ℕ, ◌^◌, ◌<◌}
use native.Mathlib.Omega.{arith}
use lib.IntN.{ℤ, pos, neg_ℤ, ◌+ℤ◌, ◌-ℤ◌}
use lib.Signed.{mag}
use mir.Syntax.{w16, w32}
use mir.Val.{SFits, to_z, of_z}
use Rattle.decibel.specs.declared.Level.{Level}
use Rattle.decibel.specs.declared.Level.TheVariants.{Silent, Figure}
use Rattle.decibel.proofs.Words.{back}
use Rattle.decibel.proofs.Ints.{add_is, neg_is, from_parts}
use Rattle.figures.specs.declared.Train.{Train}
use Rattle.figures.specs.declared.Period.{Period}
use Rattle.figures.specs.declared.Period.TheVariants.{Day, Night}
use Rattle.figures.specs.declared.Periods.{Periods}
use Rattle.figures.specs.Periods.{in_period}
use Rattle.figures.specs.Rules.{train_check}
use Rattle.emission.specs.Trains.{sounds}
use Rattle.emission.specs.Emission.{raised, emission_of}
use Rattle.emission.specs.Results.{Emits}
use Rattle.emission.proofs.Emission.{emits_figure}
use Rattle.request.proofs.Cells.{back16, wide}
use Rattle.request.specs.Levels.{cell_of}
use Rattle.request.specs.Request.{cell_in}
use Rattle.speeds.specs.Speeds.{at_speed}
use Rattle.speeds.proofs.Faster.{silent_at}
use Rattle.text_speeds.specs.Private.{Emitted, Regained}
use Rattle.std.specs.Prelude.{Ok}

-- what a train emits in a period
emitted_in : (p : Period) (t : Train) {both : Periods Level} {r : Level} → Emits (emission_of Day t) both.day × Emits (emission_of Night t) both.night → r ≡ in_period p both → emission_of p t ≡ r
unfolding in_period
emitted_in Day t e q = sym (q ∙ e.0.is)
emitted_in Night t e q = sym (q ∙ e.1.is)

-- ---- a silent train

-- an accepted train that is silent is so at every speed
module _ (p : Period) (t : Train) (check : train_check t ≡ Ok tt) (silent : emission_of p t ≡ Silent) where
  none_runs : (b : Bool) → sounds p t ≡ b → sounds p t ≡ false
  none_runs true e = let d : ◌≡◌ {A = Level} Silent (Figure _) = sym silent ∙ emits_figure p t check e in absurd (no_silent d)
    where
      no_silent : {r : ℤ} → ◌≡◌ {A = Level} Silent (Figure r) → ⊥
      no_silent e = let z : ◌≡◌ {A = ℕ} 0 1 = cc in omega arith
  none_runs false e = e

  none_added : (cell : ℤ) → Regained p t cell (pos 0)
  unfolding cell_of raised
  none_added cell = record { same = λ d e v. rw (silent_at p t (none_runs (sounds p t) refl) v) refl }

-- ---- a train that is heard

rest_is : (d e : ℤ) → (d +ℤ e) -ℤ e ≡ d
rest_is d e = from_parts ((d +ℤ e) -ℤ e) d (omega (arith, add_is d e, add_is (d +ℤ e) (neg_ℤ e), neg_is e))

module _ (p : Period) (t : Train) {cell e : ℤ} (figure : emission_of p t ≡ Figure e) where
  rest_of : (d : ℤ) → cell ≡ cell_in p d t → cell -ℤ e ≡ d
  unfolding cell_of raised
  rest_of d is = let sum : cell ≡ d +ℤ e = is ∙ rw figure refl in ap (λ (x : ℤ). x -ℤ e) sum ∙ rest_is d e

  rest_added : Regained p t cell (cell -ℤ e)
  rest_added = record { same = λ d is v. ap (λ (x : ℤ). cell_in p x (at_speed v t)) (rest_of d is) }

  rest_small : Emitted p t cell → mag (cell -ℤ e) < 2 ^ 15
  rest_small q = rw (rest_of q.added q.is) q.small

-- ---- as the code works it out, in words

module _ {p : Period} {t : Train} {both : Periods Level} {cell : ℤ} (q : Emitted p t cell) (emits : Emits (emission_of Day t) both.day × Emits (emission_of Night t) both.night) where
  pub nothing_added : Silent ≡ in_period p both → Regained p t cell (pos 0)
  nothing_added silent = none_added p t q.check (emitted_in p t emits silent) cell

  module _ {e : ℤ} (figure : Figure e ≡ in_period p both) (fits : mag cell < 2 ^ 31) (small : mag e < 2 ^ 31) where
    abbrev taken : ℤ
    taken = to_z w32 (of_z w32 cell) -ℤ to_z w32 (of_z w32 e)

    heard : emission_of p t ≡ Figure e
    heard = emitted_in p t emits figure

    taken_is : taken ≡ cell -ℤ e
    taken_is = rw (back cell fits, back e small) refl

    taken_small : mag taken < 2 ^ 15
    taken_small = rw taken_is (rest_small p t heard q)

    pub taken_fits : SFits w32 taken
    taken_fits = record { sfits = wide taken taken_small }

    taken_back : to_z w32 (of_z w32 taken) ≡ taken
    taken_back = back taken (wide taken taken_small)

    pub cast_fits : SFits w16 (to_z w32 (of_z w32 taken))
    cast_fits = rw taken_back (record { sfits = taken_small })

    pub rest_regained : Regained p t cell (to_z w16 (of_z w16 (to_z w32 (of_z w32 taken))))
    rest_regained = rw (taken_back, back16 taken taken_small, taken_is) (rest_added p t heard)
