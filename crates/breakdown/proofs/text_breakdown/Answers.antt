-- `breakdown::text_breakdown` meets its contract.
use Rattle.breakdown.specs.Breakdown.{text_bytes}
use Rattle.breakdown.proofs.Parts.{text_is}
use Rattle.breakdown.proofs.text_breakdown.Goals as goal

pub returns : goal.returns
unfolding text_bytes
returns c = record { bytes = text_is c.args.text.now c.study_of.ensures c.report.ensures.output; allowed = c.report.ensures.allowed }
