-- `lines::numbers::number_at` meets its contract, by what stands in front of the words from there on.
use Rattle.std.proofs.Common.{arith, rules}
use Rattle.lines.proofs.Bytes.{behind}
use Rattle.lines.proofs.Places.{none_past, none_there, left_fits, some_there, last_there}
use Rattle.lines.proofs.numbers.number_at.Goals as goal

pub returns-then-line-at : goal.returns-then-line-at
returns-then-line-at c = none_past c.args.line.now c.args.at c.if-line-at.true

pub returns-in_err-value : goal.returns-in_err-value
returns-in_err-value c =
    rw c.from_residual.ensures (none_there _ _ (omega arith) (behind c.args.line.now c.args.at) c.in_err-value.ensures)

pub overflow_sub-result : goal.overflow_sub-result
overflow_sub-result c =
    left_fits _ c.args.at (omega arith) (behind c.args.line.now c.args.at) (search rules) (rw c.in-Some.is at c.in_ok-value.ensures)

pub returns-in-Some : goal.returns-in-Some
returns-in-Some c =
    some_there _ _ (omega arith) (behind c.args.line.now c.args.at) (search rules) (rw c.in-Some.is at c.in_ok-value.ensures)

pub returns-in-None : goal.returns-in-None
returns-in-None c =
    last_there _ _ (omega arith) (behind c.args.line.now c.args.at) (search rules) (rw c.in-None.is at c.in_ok-value.ensures)
