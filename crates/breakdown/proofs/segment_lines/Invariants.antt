-- `breakdown::segment_lines`: the lines of the segments passed.
use Rattle.breakdown.specs.Breakdown.{segment_line}
use Rattle.breakdown.proofs.Parts.{Lines}
use Rattle.breakdown.proofs.segment_lines.Given as goal

abbrev pub invariant-loop-k : goal.invariant-loop-k
invariant-loop-k l = Lines (segment_line l.study) l.k l.initial.lines.bytes l.lines.bytes
