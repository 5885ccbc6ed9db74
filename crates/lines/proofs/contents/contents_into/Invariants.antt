-- `lines::contents::contents_into` meets its contract. The loop's invariant: the numbers read so far, and those left, are all of the line's.
use Rattle.std.proofs.Common.{◌≡◌, length, take}
use Rattle.lines.specs.Contents.{limits}
use Rattle.lines.proofs.Entries.{Reached}
use Rattle.lines.proofs.contents.contents_into.Given as goal

abbrev pub invariant-loop-value : goal.invariant-loop-value
invariant-loop-value l = (length l.counts ≡ length l.initial.counts) × Reached (limits (length l.initial.counts) l.entries) l.line l.announced (take l.others l.counts) l.sum l.numbers l.others

abbrev pub decreases-loop-value : goal.decreases-loop-value
decreases-loop-value l = length l.numbers
