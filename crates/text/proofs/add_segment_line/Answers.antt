-- `text::add_segment_line` meets its contract.
use Rattle.std.proofs.lemmas.Result.{err_from_is_err_and}
use Rattle.text.proofs.Steps.{found, segment_turned}
use Rattle.text.proofs.add_segment_line.Goals as goal

pub returns-in_err-add_segment : goal.returns-in_err-add_segment
returns-in_err-add_segment c =
    let p = err_from_is_err_and c.from_residual-in_err-add_segment.result c.from_residual-in_err-add_segment.ensures.1 in
    rw (p.1, p.2) (segment_turned c.in_ok-line.ensures (found c.segment_of.result c.ok_or.ensures.value c.in_ok-segment.was c.segment_of.ensures) c.args.study.now c.add_segment.ensures.is c.in_err-add_segment.was)
