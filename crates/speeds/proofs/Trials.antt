-- One try of the search: the total with the entry at a speed, as the code works it out.
-- Assumes nothing.
use mathlib.Core.Path.{◌≡◌, refl, ap, ◌∙◌}
use mathlib.Core.List.{List}
use Prim.Native.Nat.{ℕ, ◌≤◌, ◌<◌, ◌^◌}
use native.Mathlib.Omega.{arith}
use lib.IntN.{ℤ, pos, negsuc, ◌*ℤ◌, ◌-ℤ◌}
use lib.ListN.{length, get_or, get_or-eq_default}
use lib.Signed.{mag}
use mir.Syntax.{w32, w64}
use mir.Val.{to_z, of_z}
use Rattle.decibel.proofs.Ints.{add_most, mul_is, mag_most, most_mag}
use Rattle.decibel.proofs.Words.{back, back64}
use Rattle.figures.specs.declared.Segment.{Segment}
use Rattle.figures.specs.declared.Train.{Train}
use Rattle.figures.specs.declared.Period.{Period}
use Rattle.figures.specs.declared.Period.TheVariants.{Day, Night}
use Rattle.figures.specs.Periods.{in_period}
use Rattle.propagation.specs.declared.Propagation.{Propagation}
use Rattle.propagation.specs.Propagation.{propagation_of}
use Rattle.study.specs.Plan.{no_segment}
use Rattle.request.proofs.Found.{none_adds}
use Rattle.request.specs.Request.{entry_cells, cell_in}

-- ---- ten limits in 64 bits

module _ (z : ℤ) (h : mag z < 2 ^ 31) where
  abbrev read : ℤ
  read = to_z w32 (of_z w32 z)

  abbrev wide : ℤ
  wide = to_z w64 (of_z w64 read)

  pub wide_back : wide ≡ z
  wide_back = rw (back z h) (back64 z (omega arith))

  tenfold : mag (pos 10 *ℤ z) < 2 ^ 63
  tenfold = omega (arith, mul_is 10 z, mag_most (pos 10 *ℤ z), most_mag z)

  under : mag (pos 10 *ℤ z -ℤ pos 5) < 2 ^ 63
  under = omega (arith, mul_is 10 z, add_most (pos 10 *ℤ z) (negsuc 4), mag_most (pos 10 *ℤ z -ℤ pos 5), most_mag z)

  abbrev ten : ℤ
  ten = to_z w64 (of_z w64 (pos 10 *ℤ wide))

  ten_back : ten ≡ pos 10 *ℤ z
  ten_back = rw wide_back (back64 (pos 10 *ℤ z) tenfold)

  pub bound_back : to_z w64 (of_z w64 (ten -ℤ pos 5)) ≡ pos 10 *ℤ z -ℤ pos 5
  bound_back = rw ten_back (back64 (pos 10 *ℤ z -ℤ pos 5) under)

-- ---- the cells with one of them changed

-- the entry's own
pub period_cell : (p : Period) (tenths : ℤ) (t : Train) → in_period p (entry_cells tenths t) ≡ cell_in p tenths t
unfolding in_period entry_cells
period_cell Day tenths t = refl
period_cell Night tenths t = refl

-- ---- what a segment adds

-- nothing where there is none
pub none_at : (segments : List Segment) (place : ℕ) → length segments ≤ place → (propagation_of (get_or segments place no_segment)).tenths ≡ pos 0
none_at segments place h = ap (λ (s : Segment). (propagation_of s).tenths) (get_or-eq_default segments no_segment h) ∙ ap (λ (p : Propagation). p.tenths) none_adds
