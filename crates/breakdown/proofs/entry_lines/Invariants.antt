-- `breakdown::entry_lines`: the lines of the entries passed.
use Rattle.breakdown.specs.Breakdown.{entry_line}
use Rattle.breakdown.proofs.Parts.{Lines}
use Rattle.breakdown.proofs.entry_lines.Given as goal

abbrev pub invariant-loop-k : goal.invariant-loop-k
invariant-loop-k l = Lines (entry_line l.study l.cells) l.k l.initial.lines.bytes l.lines.bytes
