-- `drawings::period_in` meets its contract.
use mathlib.Core.Path.{ap, ◌∙◌}
use mathlib.Core.List.{◌++◌}
use native.Mathlib.Omega.{arith}
use Prim.Native.Nat.{◌+◌, ◌-◌}
use lib.ListN.{length, length-append}
use Rattle.request.proofs.Writing.{as_pasted}
use Rattle.request.proofs.Results.{byte_is}
use Rattle.drawings.specs.Private.{total_in}
use Rattle.drawings.proofs.Periods.{pasted_both, pasted_part, result_is}
use Rattle.drawings.proofs.period_in.Goals as goal

pub returns : goal.returns
returns c =
    let a = c.args in
    let own = a.one.levels.now in
    let others = a.two.levels.now in
    let one = as_pasted own a.cells.now a.at (omega (arith, c.requires.0)) c.write_levels.ensures in
    let two = as_pasted others c.write_levels.new.cells (a.at + length own) (omega (arith, c.requires.0, c.write_levels.auto.cells)) c.write_levels-2.ensures in
    let cells = pasted_both a.cells.now own others a.at (omega (arith, c.requires.0)) one two in
    let part = pasted_part a.cells.now (own ++ others) a.at (a.at + length own + length others - a.at) (omega (arith, c.requires.0)) (omega (arith, length-append own others)) cells in
    record { cells = cells; result = result_is a.period (own ++ others) (a.one.close + a.two.close) (c.total_of-total.ensures.is ∙ ap total_in part) (c.from.ensures ∙ byte_is _) c.is_met.ensures }
