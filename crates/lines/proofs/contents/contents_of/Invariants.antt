-- `lines::contents::contents_of` meets its contract. The loop's invariant: the numbers read so far, and those left, are all of the line's.
use Rattle.std.proofs.Common.{length}
use Rattle.lines.specs.Contents.{limits}
use Rattle.lines.proofs.Entries.{Reached}
use Rattle.lines.proofs.contents.contents_of.Given as goal

abbrev pub invariant-loop-value : goal.invariant-loop-value
invariant-loop-value g l = Reached (limits g.row.N l.entries) l.line l.announced l.counts.items l.sum l.numbers l.others

abbrev pub decreases-loop-value : goal.decreases-loop-value
decreases-loop-value g l = length l.numbers
