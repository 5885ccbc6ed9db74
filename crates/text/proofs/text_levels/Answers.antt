-- `text::text_levels` meets its contract.
use Rattle.std.proofs.Common.{refl}
use Rattle.std.proofs.lemmas.Result.{err_from_is_err_and}
use Rattle.text.proofs.TextAnswers.{refused_answers, text_answered, answer_number}
use Rattle.text.proofs.text_levels.Goals as goal

pub returns-in_err-counts : goal.returns-in_err-counts
returns-in_err-counts c =
    let p = err_from_is_err_and c.from_residual.result c.from_residual.ensures.1 in
    let a = text_answered c.args.text.now c.in_err-counts.ensures (refused_answers refl refl) in
    rw (p.1, p.2) (record { answered = a; number = answer_number _ a })

pub returns : goal.returns
returns c =
    let a = text_answered c.args.text.now c.in_ok-counts.ensures (rw c.as_slice.ensures.value at c.answer_lines.ensures) in
    record { answered = a; number = answer_number _ a }
