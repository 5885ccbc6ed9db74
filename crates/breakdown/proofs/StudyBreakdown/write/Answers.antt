-- `breakdown::StudyBreakdown::write` meets its contract.
use Rattle.std.proofs.Common.{refl, ◌∙◌}
use Rattle.breakdown.specs.Breakdown.{study_bytes}
use Rattle.breakdown.proofs.StudyBreakdown.write.Goals as goal

pub returns-clause-is : goal.returns-clause-is
unfolding study_bytes
returns-clause-is c =
    let segments = rw c.clear.ensures at c.segment_lines.ensures.is in
    c.entry_lines.ensures.is ∙ rw segments refl
