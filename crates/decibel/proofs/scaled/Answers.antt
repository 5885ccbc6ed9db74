-- `decibel::scaled` meets its contract. The invariant of its loop: the number is n times the tenfolds, and was not large before the last.
use lib.Dec.{lit≤}
use mathlib.Core.Path.{◌∙◌, subst}
use Prim.Native.Nat.{ℕ}
use Rattle.decibel.specs.Fine.{most_number}
use Rattle.decibel.specs.Private.{Scaled}
use Rattle.decibel.proofs.Greatest.{clamp_is}
use Rattle.decibel.proofs.Tenfolds.{tenfold_next, tenfolds_are, few_tenfolds}
use Rattle.decibel.proofs.scaled.Goals as goal

pub loop-number-preserved : goal.loop-number-preserved
loop-number-preserved c = tenfold_next c.loop-number.invariant c.loop-number-test.true

pub invariant_of-result : goal.invariant_of-result
invariant_of-result c = let t = c.loop-number.invariant in record { large = (c.loop-number-test.false, t.high); few = few_tenfolds t }

pub returns : goal.returns
returns c =
    subst (λ (n : ℕ). Scaled n c.loop-number.number c.loop-number.tenfolds) (c.clamp-n.ensures ∙ clamp_is 1 most_number _ (lit≤ tt))
    (tenfolds_are c.loop-number.invariant c.loop-number-test.false)
