-- `text::read_lines` meets its contract. Both loops' invariant: what is left of the text and of the kinds of line to come gives the whole answer.
use Rattle.std.proofs.Common.{◌+◌, ◌-◌, drop}
use Rattle.text.specs.Text.{trains, kinds_of}
use Rattle.text.proofs.Rest.{Rest}
use Rattle.text.proofs.read_lines.Given as goal

abbrev pub invariant-loop : goal.invariant-loop
invariant-loop l = Rest l.text l.counts l.study l.rest l.line (trains (l.end - l.counter) (kinds_of (drop (l.count-index + 1) l.counts)))

abbrev pub invariant-loop-count : goal.invariant-loop-count
invariant-loop-count l = Rest l.text l.counts l.study l.rest l.line (kinds_of (drop l.count-index l.counts))
