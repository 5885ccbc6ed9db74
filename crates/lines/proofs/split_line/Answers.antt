-- `lines::split_line` meets its contract: the first line feed ends the line, or none does.
use Rattle.std.proofs.Common.{◌+◌, sym, add-one}
use Rattle.lines.proofs.Bytes.{first_at, none_at, behind}
use Rattle.lines.proofs.split_line.Goals as goal

pub returns-in_err-end : goal.returns-in_err-end
returns-in_err-end c = rw c.from_residual.ensures (sym (none_at 10 c.args.text.now c.in_err-end.ensures).1)

pub returns : goal.returns
returns c =
    let text = c.args.text.now in
    let end = c.in_ok-end.end in
    let first = first_at 10 text end c.in_ok-end.ensures.0.high c.in_ok-end.ensures.0.before c.in_ok-end.ensures.1 in
    (sym first.0, rw (first.1, behind text (end + 1), add-one))
