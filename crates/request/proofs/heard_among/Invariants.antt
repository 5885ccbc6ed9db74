-- `request::heard_among`: the segments heard by the entries passed.
use Rattle.request.proofs.Hearing.{HeardTo}
use Rattle.request.proofs.heard_among.Given as goal

abbrev pub invariant-loop-i : goal.invariant-loop-i
invariant-loop-i l = HeardTo l.places l.levels l.i l.heard
