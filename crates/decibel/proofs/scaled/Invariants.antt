-- `decibel::scaled` meets its contract. The invariant of its loop: the number is n times the tenfolds, and was not large before the last.
use Prim.Native.Nat.{◌-◌}
use Rattle.decibel.specs.Fine.{least_large}
use Rattle.decibel.proofs.Tenfolds.{Tenfold}
use Rattle.decibel.proofs.scaled.Given as goal

abbrev pub invariant-loop-number : goal.invariant-loop-number
invariant-loop-number l = Tenfold l.n l.number l.tenfolds

abbrev pub decreases-loop-number : goal.decreases-loop-number
decreases-loop-number l = least_large - l.number
