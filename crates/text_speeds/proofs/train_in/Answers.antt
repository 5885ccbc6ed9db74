-- `text_speeds::train_in` meets its contract. The loop's invariant: the lines before what is left are passed. The measure is what is left of the text.
use Rattle.text_speeds.proofs.Passed.{passed_all}
use Rattle.text_speeds.proofs.train_in.Goals as goal

pub returns : goal.returns
returns c = passed_all c.loop-line.invariant c.in_default-split_line.ensures
