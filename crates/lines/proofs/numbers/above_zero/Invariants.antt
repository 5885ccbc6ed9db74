-- `lines::numbers::above_zero` meets its contract. The loop's invariant: the bytes passed are digits of the word, at most five, of the value.
use Rattle.lines.proofs.Digits.{Passed}
use Rattle.lines.proofs.numbers.above_zero.Given as goal

abbrev pub invariant-loop-i : goal.invariant-loop-i
invariant-loop-i l = Passed l.words l.value l.i
