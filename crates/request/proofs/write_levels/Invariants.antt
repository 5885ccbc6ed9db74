-- `request::write_levels` meets its contract. The loop's invariant: the levels passed stand in their cells.
use mathlib.Core.Path.{◌≡◌}
use lib.ListN.{length}
use lib.Seq.{paste}
use Rattle.request.proofs.write_levels.Given as goal

abbrev pub invariant-loop-i : goal.invariant-loop-i
invariant-loop-i l = (length l.cells ≡ length l.initial.cells) × (l.cells ≡ paste l.initial.cells l.at l.levels l.i)
