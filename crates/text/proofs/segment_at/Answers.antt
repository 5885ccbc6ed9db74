-- `text::segment_at` meets its contract.
use Rattle.std.proofs.lemmas.Result.{err_from_is_err_and}
use Rattle.text.proofs.Steps.{found, judged_fault}
use Rattle.text.proofs.segment_at.Goals as goal

pub returns-in_err-adds : goal.returns-in_err-adds
returns-in_err-adds c =
    let p = err_from_is_err_and c.from_residual-in_err-adds.result c.from_residual-in_err-adds.ensures.1 in
    rw (p.1, p.2) (judged_fault c.in_ok-line.ensures (found c.segment_of.result c.ok_or.ensures.value c.in_ok-segment.was c.segment_of.ensures) c.args.count c.in_err-adds.ensures.is)
