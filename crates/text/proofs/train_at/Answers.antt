-- `text::train_at` meets its contract.
use Rattle.std.proofs.Common.{sym}
use Rattle.std.proofs.lemmas.Result.{err_from_is_err_and}
use Rattle.text.proofs.Steps.{found, answered_fault}
use Rattle.text.proofs.train_at.Goals as goal

pub returns-in_err-train_answer : goal.returns-in_err-train_answer
returns-in_err-train_answer c =
    let p = err_from_is_err_and c.from_residual-in_err-train_answer.result c.from_residual-in_err-train_answer.ensures.1 in
    rw (p.1, p.2) (answered_fault c.in_ok-line.ensures (found c.train_of.result c.ok_or.ensures.value c.in_ok-train.was c.train_of.ensures) (sym c.in_err-train_answer.ensures.is))
