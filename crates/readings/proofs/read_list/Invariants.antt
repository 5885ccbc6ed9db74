-- `readings::read_list`: what was read lies within the list, and each turn reads more.
use Rattle.std.proofs.Common.{◌-◌, ◌≤◌, length}
use Rattle.readings.proofs.read_list.Given as goal

abbrev pub invariant-loop-more : goal.invariant-loop-more
invariant-loop-more g l = l.length ≤ length l.list

abbrev pub decreases-loop-more : goal.decreases-loop-more
decreases-loop-more g l = length l.list - l.length
