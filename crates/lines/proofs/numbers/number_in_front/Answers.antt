-- `lines::numbers::number_in_front` meets its contract, by the bytes in front.
use Rattle.std.proofs.Common.{arith, rules, option_copied}
use Rattle.lines.proofs.Bytes.{behind}
use Rattle.lines.proofs.Values.{zero_stop, zero_end, zero_more, below_end, below_low, below_none, below_fits, below_some, none_empty, none_low}
use Rattle.lines.proofs.numbers.number_in_front.Goals as goal

pub returns-in_err-first : goal.returns-in_err-first
returns-in_err-first c = rw c.from_residual.ensures (none_empty c.args.words.now c.in_err-first.ensures.cases)

pub returns-in-empty : goal.returns-in-empty
returns-in-empty c = zero_end c.in_ok-first.ensures.cases.0 c.in-48.is (omega arith)

pub returns-in-32 : goal.returns-in-32
returns-in-32 c = zero_stop c.in_ok-first.ensures.cases.0 c.in-48.is (omega arith) (omega arith) (behind c.in_ok-first.tail.now 1)

pub returns-in_default-tail : goal.returns-in_default-tail
returns-in_default-tail c = zero_more c.in_ok-first.ensures.cases.0 c.in-48.is (omega arith) (omega arith)

pub returns-in_err-first-in-45 : goal.returns-in_err-first-in-45
returns-in_err-first-in-45 c =
    rw c.from_residual-in_err-first-in-45.ensures (below_end c.in_ok-first.ensures.cases.0 c.in-45.is c.in_err-first-in-45.ensures.value)

pub returns-then-branch-le48 : goal.returns-then-branch-le48
returns-then-branch-le48 c =
    below_low c.in_ok-first.ensures.cases.0 c.in-45.is c.in_ok-first-in-45.ensures.item.3.0 (omega (arith, c.in_ok-first-in-45.ensures.item.3.1 0))

pub returns-in_err-value-in-45 : goal.returns-in_err-value-in-45
returns-in_err-value-in-45 c =
    rw c.from_residual-in_err-value-in-45.ensures
    (below_none c.in_ok-first.ensures.cases.0 c.in-45.is c.in_ok-first-in-45.ensures.item.3.0 (omega (arith, c.in_ok-first-in-45.ensures.item.3.1 0)) c.in_err-value-in-45.ensures)

pub overflow_sub-result : goal.overflow_sub-result
overflow_sub-result c =
    let r = c.in_ok-value-in-45 in
    below_fits c.in_ok-first.ensures.cases.0 c.in-45.is c.in_ok-first-in-45.ensures.item.3.0 (omega (arith, c.in_ok-first-in-45.ensures.item.3.1 0)) (option_copied r.rest) r.ensures (search rules)

pub returns-in_ok-value-in-45 : goal.returns-in_ok-value-in-45
returns-in_ok-value-in-45 c =
    let r = c.in_ok-value-in-45 in
    below_some c.in_ok-first.ensures.cases.0 c.in-45.is c.in_ok-first-in-45.ensures.item.3.0 (omega (arith, c.in_ok-first-in-45.ensures.item.3.1 0)) (option_copied r.rest) r.ensures (search rules)

pub returns-in_default : goal.returns-in_default
returns-in_default c = none_low c.in_ok-first.ensures.cases.0 (omega arith) (omega arith)
