-- `drawings::drawing_in` meets its contract.
use Rattle.std.proofs.Common.{arith, rules}
use Rattle.std.proofs.lemmas.Result.{err_from_is_err_and}
use Rattle.text.proofs.EnoughCells.{text_refused, text_answered}
use Rattle.drawings.proofs.Texts.{sizes_some, text_gives}
use Rattle.drawings.proofs.drawing_in.Goals as goal

pub returns-in_err-answer : goal.returns-in_err-answer
returns-in_err-answer c =
    let p = err_from_is_err_and c.from_residual.result c.from_residual.ensures.1 in
    rw (p.1, p.2) (text_refused c.args.text.now c.text_levels.ensures.answered c.requires c.args.place (search rules) c.in_err-answer.was)

pub unwrap-sizes-requires : goal.unwrap-sizes-requires
unwrap-sizes-requires c =
    let q = c.text_levels.ensures.answered in
    sizes_some c.args.text.now q c.requires (text_answered c.args.text.now q c.requires c.args.place (search rules) c.in_ok-answer.was) _ c.sizes_of.ensures

pub returns : goal.returns
returns c =
    let q = c.text_levels.ensures.answered in
    text_gives c.args.text.now q c.requires (text_answered c.args.text.now q c.requires c.args.place (search rules) c.in_ok-answer.was) (rw c.unwrap-sizes.ensures at c.sizes_of.ensures) (omega arith) c.part_of.ensures c.part_of-2.ensures
