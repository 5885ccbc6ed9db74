-- `drawings::merged_levels` meets its contract.
use Rattle.std.proofs.Common.{rules}
use Rattle.std.proofs.lemmas.Result.{err_from_is_err_and}
use Rattle.drawings.proofs.Texts.{text_small}
use Rattle.drawings.proofs.Answers.{told_mapped, first_refused_lem, second_refused, both_told}
use Rattle.drawings.proofs.merged_levels.Goals as goal

pub returns-in_err-one : goal.returns-in_err-one
returns-in_err-one c =
    let p = err_from_is_err_and c.from_residual.result c.from_residual.ensures.1 in
    let all = first_refused_lem _ _ c.in_err-one.ensures in
    rw (p.1, p.2) (record { answered = all.0; number = all.1 })

pub returns-in_err-two : goal.returns-in_err-two
returns-in_err-two c =
    let p = err_from_is_err_and c.from_residual-in_err-two.result c.from_residual-in_err-two.ensures.1 in
    let all = second_refused _ _ c.in_ok-one.ensures c.in_err-two.ensures in
    rw (p.1, p.2) (record { answered = all.0; number = all.1 })

pub together-requires : goal.together-requires
together-requires c = (text_small _ c.in_ok-one.ensures, text_small _ c.in_ok-two.ensures)

pub returns : goal.returns
returns c =
    let all = both_told _ _ c.in_ok-one.ensures c.in_ok-two.ensures c.together.ensures (told_mapped c.together.result (search rules)) in
    record { answered = all.0; number = all.1 }
