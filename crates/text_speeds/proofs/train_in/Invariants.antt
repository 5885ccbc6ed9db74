-- `text_speeds::train_in` meets its contract. The loop's invariant: the lines before what is left are passed. The measure is what is left of the text.
use Rattle.std.proofs.Common.{length}
use Rattle.text_speeds.proofs.Passed.{Passed}
use Rattle.text_speeds.proofs.train_in.Given as goal

abbrev pub invariant-loop-line : goal.invariant-loop-line
invariant-loop-line l = Passed l.text l.place l.rest l.total l.train

abbrev pub decreases-loop-line : goal.decreases-loop-line
decreases-loop-line l = length l.rest
