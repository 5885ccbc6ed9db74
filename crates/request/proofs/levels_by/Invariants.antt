-- The levels of the entries passed stand in their cells.
use Rattle.request.proofs.Laying.{Laying}
use Rattle.request.proofs.levels_by.Given as goal

abbrev pub invariant-loop-at : goal.invariant-loop-at
invariant-loop-at l = Laying l.added l.entries l.initial.cells l.at l.cells
