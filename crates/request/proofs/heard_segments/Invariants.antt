-- `request::heard_segments`: the segments heard by the entries passed.
use Rattle.request.proofs.Hearing.{HeardTo}
use Rattle.request.specs.Request.{places_of}
use Rattle.request.proofs.heard_segments.Given as goal

abbrev pub invariant-loop-i : goal.invariant-loop-i
invariant-loop-i l = HeardTo (places_of l.entries) l.levels l.i l.heard
