-- `lines::numbers::above_zero` meets its contract. The loop's invariant: the bytes passed are digits of the word, at most five, of the value.
use Rattle.std.proofs.Common.{arith, ◌+◌}
use Rattle.lines.proofs.Bytes.{behind}
use Rattle.lines.proofs.Digits.{passed_more}
use Rattle.lines.proofs.Values.{above_stop, above_other, above_long, above_end}
use Rattle.lines.proofs.numbers.above_zero.Goals as goal

pub returns-then-byte-eq32 : goal.returns-then-byte-eq32
returns-then-byte-eq32 c =
    above_stop c.args.words.now c.requires.0 c.requires.1 c.loop-i.invariant (omega arith) (omega arith) (behind c.args.words.now (c.loop-i.i + 1))

pub returns-then-digit-gt9 : goal.returns-then-digit-gt9
returns-then-digit-gt9 c =
    above_other c.args.words.now c.requires.0 c.requires.1 c.loop-i.invariant (omega arith) (omega arith) (λ a b. omega arith)

pub returns-then-i-ge5 : goal.returns-then-i-ge5
returns-then-i-ge5 c =
    above_long c.args.words.now c.requires.0 c.requires.1 c.loop-i.invariant (omega arith) (λ e. omega arith) (omega arith)

pub loop-i-preserved : goal.loop-i-preserved
loop-i-preserved c = passed_more c.loop-i.invariant (omega arith) (omega arith) (omega (arith, c.type_inv.words c.loop-i.i)) (omega arith)

pub returns : goal.returns
returns c = above_end c.args.words.now c.requires.0 c.requires.1 c.loop-i.invariant (omega arith)
