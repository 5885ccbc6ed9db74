-- `decibel::root` meets its contract. The invariant of its loop: `x` is not below the root, and `y` is Newton's step from it.
use Rattle.decibel.proofs.Newton.{Newton}
use Rattle.decibel.proofs.root.Given as goal

abbrev pub invariant-loop-y : goal.invariant-loop-y
invariant-loop-y l = Newton l.n l.x l.y

abbrev pub decreases-loop-y : goal.decreases-loop-y
decreases-loop-y l = l.x
