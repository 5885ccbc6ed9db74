-- `readings::show_each` is safe and ends: each turn leaves fewer bytes of the list.
use Rattle.std.proofs.Common.{◌≤◌, length}
use Rattle.readings.proofs.show_each.Given as goal

abbrev pub invariant-loop-end : goal.invariant-loop-end
invariant-loop-end g l = length l.rest ≤ length l.list

abbrev pub decreases-loop-end : goal.decreases-loop-end
decreases-loop-end g l = length l.rest
