-- A period's verdict by one comparison of tenths.
-- Assumes nothing.
use mathlib.Core.Path.{◌≡◌, sym}
use mathlib.Core.Bool.{false}
use Prim.Native.Nat.{◌*◌, ◌-◌, ◌≤◌}
use native.Mathlib.Omega.{arith}
use lib.IntN.{ℤ, pos}
use lib.Signed.{le_z}
use Rattle.decibel.specs.declared.Level.{Level}
use Rattle.decibel.specs.declared.Level.TheVariants.{Silent, Figure}
use Rattle.energy.proofs.Verdict.{meets_is}
use Rattle.figures.specs.declared.Period.{Period}
use Rattle.figures.specs.declared.Period.TheVariants.{Day, Night}
use Rattle.request.specs.Levels.{limit_of, met_by}

some_limit : (p : Period) → 1 ≤ limit_of p
unfolding limit_of
some_limit Day = omega arith
some_limit Night = omega arith

pub silent_unmet : (p : Period) (l : Level) → l ≡ Silent → false ≡ met_by p l
unfolding met_by
silent_unmet p l e = rw e

pub met_from : (p : Period) (l : Level) (r : ℤ) → l ≡ Figure r → le_z (pos (10 * limit_of p - 5)) r ≡ met_by p l
unfolding met_by
met_from p l r e = rw e (sym (meets_is (limit_of p) r (some_limit p)))
