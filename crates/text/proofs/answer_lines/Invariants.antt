-- What is left of the text and of the kinds of line to come gives the whole answer, and what was worked out is kept.
use Rattle.std.proofs.Common.{◌+◌, ◌-◌, drop}
use Rattle.text.specs.Text.{trains, kinds_of}
use Rattle.text.proofs.Reached.{Reached}
use Rattle.text.proofs.answer_lines.Given as goal

abbrev pub invariant-loop : goal.invariant-loop
invariant-loop l =
    Reached l.text l.counts l.added.items l.entries.items (l.segment + 1) l.rest l.line (trains (l.end - l.counter) (kinds_of (drop (l.segment + 1) l.counts)))

abbrev pub invariant-loop-segment : goal.invariant-loop-segment
invariant-loop-segment l =
    Reached l.text l.counts l.added.items l.entries.items l.segment l.rest l.line (kinds_of (drop l.segment l.counts))
