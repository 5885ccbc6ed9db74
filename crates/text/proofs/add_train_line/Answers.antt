-- `text::add_train_line` meets its contract.
use Rattle.std.proofs.lemmas.Result.{err_from_is_err_and}
use Rattle.text.proofs.Steps.{found, train_turned}
use Rattle.text.proofs.add_train_line.Goals as goal

pub returns-in_err-add_train : goal.returns-in_err-add_train
returns-in_err-add_train c =
    let p = err_from_is_err_and c.from_residual-in_err-add_train.result c.from_residual-in_err-add_train.ensures.1 in
    rw (p.1, p.2) (train_turned c.in_ok-line.ensures (found c.train_of.result c.ok_or.ensures.value c.in_ok-train.was c.train_of.ensures) c.args.study.now c.add_train.ensures.is c.in_err-add_train.was)
