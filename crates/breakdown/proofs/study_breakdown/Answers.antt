-- `breakdown::study_breakdown` meets its contract.
use Rattle.std.proofs.Common.{refl}
use Rattle.breakdown.specs.Breakdown.{study_bytes}
use Rattle.breakdown.proofs.Parts.{study_is, cells_are}
use Rattle.breakdown.proofs.study_breakdown.Goals as goal

pub returns : goal.returns
unfolding study_bytes
returns c =
    let plan = c.args.study.now in
    record { bytes = study_is plan (cells_are plan refl c.levels.ensures.answered.by); allowed = c.levels.ensures.answered.allowed }
