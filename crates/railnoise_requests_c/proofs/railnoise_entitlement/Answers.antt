-- `railnoise_requests_c::railnoise_entitlement` meets its contract.
use Rattle.std.proofs.Common.{◌∙◌}
use Rattle.railnoise_requests_c.proofs.Refusals.{called}
use Rattle.railnoise_requests_c.proofs.railnoise_entitlement.Goals as goal

pub returns : goal.returns
returns c = called _ _ _ _ c.looked_at.ensures c.looked_at-2.ensures c.looked_at-3.ensures c.looked_at-4.ensures (c.from.ensures ∙ c.entitled.ensures)
