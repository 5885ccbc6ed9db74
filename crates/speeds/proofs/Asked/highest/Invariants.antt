-- What the search by halves keeps between its bounds.
use Rattle.std.proofs.Common.{◌-◌}
use Rattle.speeds.specs.Private.{total_at}
use Rattle.speeds.proofs.Search.{Between}
use Rattle.speeds.proofs.Asked.highest.Given as goal

abbrev pub invariant-loop-low : goal.invariant-loop-low
invariant-loop-low l = let q = l.self in Between q.limit (total_at q.period q.cells.now q.place q.tenths q.train) l.low l.high

abbrev pub decreases-loop-low : goal.decreases-loop-low
decreases-loop-low l = l.high - l.low
