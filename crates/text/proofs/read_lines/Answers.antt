-- `text::read_lines` meets its contract. Both loops' invariant: what is left of the text and of the kinds of line to come gives the whole answer.
use Rattle.std.proofs.Common.{arith, sym}
use Rattle.text.specs.Answer.{reading_of}
use Rattle.text.proofs.Rest.{rest_start, rest_segment, rest_none, rest_trains, rest_train, rest_after, rest_refused, rest_next, rest_over, rest_done}
use Rattle.text.proofs.read_lines.Goals as goal

pub loop-count-init : goal.loop-count-init
loop-count-init c = rest_start _ _ c.new-study.ensures

pub loop-init : goal.loop-init
loop-init c = rest_trains _ _ (rest_next (rest_segment _ c.loop-count.invariant (omega arith)) c.in-Ok.ensures)

pub loop-preserved : goal.loop-preserved
loop-preserved c = rest_next (rest_train _ c.loop.counter _ c.loop.invariant (omega arith)) c.in-Ok-add_train_line.ensures

pub loop-count-preserved : goal.loop-count-preserved
loop-count-preserved c = rest_after _ c.loop.counter _ c.loop.invariant (omega arith)

pub returns-in-Err : goal.returns-in-Err
unfolding reading_of
returns-in-Err c = sym (rest_refused (rest_segment _ c.loop-count.invariant (omega arith)) c.in-Err.ensures)

pub returns-in-Err-add_train_line : goal.returns-in-Err-add_train_line
unfolding reading_of
returns-in-Err-add_train_line c = sym (rest_refused (rest_train _ c.loop.counter _ c.loop.invariant (omega arith)) c.in-Err-add_train_line.ensures)

pub returns-then-is_empty : goal.returns-then-is_empty
unfolding reading_of
returns-then-is_empty c = sym (rest_done (rest_none _ c.loop-count.invariant (omega arith)) c.if-is_empty.ensures)

pub returns-else-is_empty : goal.returns-else-is_empty
unfolding reading_of
returns-else-is_empty c = sym (rest_over (rest_none _ c.loop-count.invariant (omega arith)) c.if-is_empty.ensures)
