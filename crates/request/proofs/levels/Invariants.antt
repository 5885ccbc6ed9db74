-- What the segments passed add has been found.
use Rattle.std.proofs.Common.{◌≡◌, map, take}
use Rattle.propagation.specs.Propagation.{propagation_of}
use Rattle.request.proofs.levels.Given as goal

abbrev pub invariant-loop-segment : goal.invariant-loop-segment
invariant-loop-segment l = l.added.items ≡ map propagation_of (take l.segment-index l.segment-items)
