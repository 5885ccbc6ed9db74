-- `decibel::root` meets its contract. The invariant of its loop: `x` is not below the root, and `y` is Newton's step from it.
use native.Mathlib.Omega.{arith}
use Rattle.decibel.proofs.Greatest.{root_is}
use Rattle.decibel.proofs.Newton.{first_step_fits, newton_first, newton_next, newton_root}
use Rattle.decibel.proofs.root.Goals as goal

pub returns-then-n-eq0 : goal.returns-then-n-eq0
returns-then-n-eq0 c = root_is c.args.n 0 (omega arith) (omega arith)

pub overflow_add-y : goal.overflow_add-y
overflow_add-y c = record { fits = first_step_fits _ c.ranges.n.fits }

pub loop-y-init : goal.loop-y-init
loop-y-init c = newton_first _ c.ranges.n.fits (omega arith)

pub loop-y-preserved : goal.loop-y-preserved
loop-y-preserved c = newton_next _ _ _ c.loop-y.invariant c.loop-y-test.true

pub returns : goal.returns
returns c = newton_root _ _ _ c.loop-y.invariant c.loop-y-test.false
