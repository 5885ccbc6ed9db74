-- `text::next_line` meets its contract: nothing is left, no line feed ends the line, or a line.
use Rattle.text.proofs.Places.{line_split, nothing_next}
use Rattle.text.proofs.next_line.Goals as goal

pub returns-then-is_empty : goal.returns-then-is_empty
returns-then-is_empty c = nothing_next c.args.text.now c.if-is_empty.ensures

pub returns : goal.returns
returns c = rw c.ok_or.ensures.value (line_split c.args.text.now c.if-is_empty.ensures c.split_line.result c.split_line.ensures)
