-- What holds between the additions of the lists' segments, and of the trains of one of them.
use Rattle.study.proofs.Remaining.{AtSegment, AtEntry}
use Rattle.study.proofs.Study.extend.Given as goal

abbrev pub invariant-loop-k : goal.invariant-loop-k
invariant-loop-k l = AtSegment (record { segments = l.segments; entries = l.entries }) l.fn.self l.k l.self

abbrev pub invariant-loop-entry : goal.invariant-loop-entry
invariant-loop-entry l = AtEntry (record { segments = l.segments; entries = l.entries }) l.initial.self l.k l.entry-index l.self
