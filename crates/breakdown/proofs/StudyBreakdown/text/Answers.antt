-- `breakdown::StudyBreakdown::text` meets its contract.
use Rattle.std.proofs.Common.{◌∙◌, ◌≤◌, length}
use mathlib.Core.List.{[], ◌∷◌, append-nil, flatten}
use Rattle.writing.proofs.Concatenation.{fits_as}
use Rattle.breakdown.proofs.StudyBreakdown.text.Goals as goal

pub returns : goal.returns
unfolding flatten
returns c =
    let lines = c.as_str.ensures.value in
    let room : length c.write.new.lines.bytes ≤ 30720 = c.write.ensures.room in
    c.concatenated.ensures ∙ fits_as 30720 (c.as_str.result.now ∷ []) (append-nil c.as_str.result.now) (rw lines room) ∙ lines ∙ c.write.ensures.is
