-- A total of levels up to 180 dB is a level that cells can hold, and a level alone is its own total, unmarked.
-- Assumes nothing.
use mathlib.Core.Path.{◌≡◌, sym, ap₂, ◌∙◌, subst}
use mathlib.Core.Bool.{Bool, false}
use mathlib.Core.List.{List, [], ◌∷◌}
use Prim.Native.Nat.{ℕ, ◌+◌, ◌≤◌, ◌<◌, zero-le}
use native.Mathlib.Nat.{le_refl, le_antisymm}
use native.Mathlib.Omega.{arith}
use borrow.Author.Tests.{le-ltb}
use lib.Dec.{ltb, lit≤, lit<}
use lib.IntN.{ℤ, pos, negsuc}
use lib.Signed.{◌≤ℤ◌}
use lib.ListN.{length}
use Rattle.decibel.specs.Round.{by_mark}
use Rattle.decibel.specs.declared.Level.{Level}
use Rattle.decibel.specs.declared.Level.TheVariants.{Silent, Figure}
use Rattle.decibel.proofs.Ints.{add_is, from_parts, ints}
use Rattle.energy.specs.Energy.{bare_at}
use Rattle.energy.specs.Total.{energies, total_by}
use Rattle.energy.specs.Mark.{height_of, loudest_of, weighed, begin_of, end_of, passed_of, total_mark, total_of}
use Rattle.energy.specs.Private.{figure_at}
use Rattle.energy.specs.Rising.{LevelsKept, none, next}
use Rattle.energy.proofs.Weighing.{unit}
use Rattle.energy.proofs.Thresholds.{tenths_least, passed_most, passed_is}
use Rattle.energy.proofs.Levels.{height_is, louder, loudest_above, loudest_some, weighed_most}
use Rattle.energy.proofs.Named.{total_figure}

-- silent is no figure
pub no_figure {ℓ} : {A : Type ℓ} (f : ℤ) → ◌≡◌ {A = Level} Silent (Figure f) → A
no_figure f e = let z : ◌≡◌ {A = ℕ} 0 1 = cc in let x : ⊥ = omega arith in absurd x

-- where no level is above 180 dB, the total is a level that cells can hold
pub total_lies : (ls : List ℤ) → LevelsKept ls → length ls ≤ 96 → loudest_of ls ≤ 3801 → (f : ℤ) → (total_of ls).level ≡ Figure f → (negsuc 1999 ≤ℤ f) × (f ≤ℤ pos 2000)
unfolding total_of total_by
total_lies [] kept few low f e = no_figure f e
total_lies (l ∷ ls) kept few low f e =
    let t = loudest_of (l ∷ ls) in
    let w = weighed t (l ∷ ls) in
    let some = loudest_some kept in
    let k : passed_of w < 199 = passed_most w (omega (arith, weighed_most t (l ∷ ls))) in
    let x : by_mark (total_mark (l ∷ ls)) (bare_at (energies (l ∷ ls))) ≡ f = cc in
    let q : f ≡ figure_at t (passed_of w) = sym x ∙ total_figure kept some few in
    let is = add_is (pos (t + passed_of w)) (negsuc 2000) in
    subst (λ (z : ℤ). (negsuc 1999 ≤ℤ z) × (z ≤ℤ pos 2000)) (sym q) (omega (arith, ints), omega (arith, ints))

-- ---- a level alone

module _ (f : ℤ) (low : negsuc 1999 ≤ℤ f) (high : f ≤ℤ pos 2000) where
  alone_kept : LevelsKept (f ∷ [])
  alone_kept = next low high none

  loudest_alone : loudest_of (f ∷ []) ≡ height_of f
  unfolding loudest_of
  loudest_alone = le_antisymm (louder (λ t. t ≤ height_of f) (height_of f) 0 (λ _. zero-le) (λ _. le_refl (height_of f))) (loudest_above f []).0

  abbrev sum : ℕ
  sum = weighed (loudest_of (f ∷ [])) (f ∷ [])

  -- its weight is the unit, short of the first mark
  sum_most : sum ≤ unit
  sum_most = omega (arith, weighed_most (loudest_of (f ∷ [])) (f ∷ []))

  none_passed : passed_of sum ≡ 0
  unfolding begin_of
  none_passed = passed_is sum 0 (lit< tt) zero-le (omega (arith, sum_most, tenths_least 0))

  unmarked : total_mark (f ∷ []) ≡ false
  unfolding total_mark end_of
  unmarked = subst (λ (k : ℕ). ltb sum (end_of k) ≡ false) (sym none_passed) (le-ltb sum 0 zero-le)

  figure_alone : by_mark (total_mark (f ∷ [])) (bare_at (energies (f ∷ []))) ≡ f
  figure_alone =
      total_figure alone_kept (loudest_some alone_kept) (lit≤ tt) ∙ ap₂ figure_at loudest_alone none_passed
      ∙ from_parts (figure_at (height_of f) 0) f (omega (arith, add_is (pos (height_of f + 0)) (negsuc 2000), height_is f low))

  pub total_alone : total_of (f ∷ []) ≡ record { level = Figure f; close = false }
  unfolding total_of total_by
  total_alone = ap₂ (λ (x : ℤ) (b : Bool). record { level = Figure x; close = b }) figure_alone unmarked
