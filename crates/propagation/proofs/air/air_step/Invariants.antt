-- `propagation::air::air_step` meets its contract.
use Prim.Native.Nat.{◌-◌}
use Rattle.propagation.proofs.AirStep.{Passed}
use Rattle.propagation.proofs.air.air_step.Given as goal

abbrev pub invariant-loop-passed : goal.invariant-loop-passed
invariant-loop-passed l = Passed l.square l.passed

abbrev pub decreases-loop-passed : goal.decreases-loop-passed
decreases-loop-passed l = 25 - l.passed
