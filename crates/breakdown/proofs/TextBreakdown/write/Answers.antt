-- `breakdown::TextBreakdown::write` meets its contract.
use Rattle.std.proofs.Common.{refl, ◌∙◌}
use Rattle.breakdown.specs.Breakdown.{text_bytes}
use Rattle.breakdown.proofs.TextBreakdown.write.Goals as goal

pub returns : goal.returns
unfolding text_bytes
returns c = c.push_str.ensures.bytes ∙ rw (c.write.ensures.is ∙ c.study_breakdown.ensures.bytes, c.as_str.ensures.value ∙ c.text.ensures) refl
