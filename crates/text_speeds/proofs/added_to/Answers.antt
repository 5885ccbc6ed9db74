-- `text_speeds::added_to` meets its contract.
use Rattle.std.proofs.Common.{rules}
use Rattle.text_speeds.proofs.AddedTo.{nothing_added, taken_fits, cast_fits, rest_regained}
use Rattle.text_speeds.proofs.added_to.Goals as goal

pub overflow_sub-result : goal.overflow_sub-result
overflow_sub-result c = taken_fits c.requires c.emissions_of.ensures c.in-Figure.ensures c.ranges.cell.sfits (search rules)

pub overflow_cast-result : goal.overflow_cast-result
overflow_cast-result c = cast_fits c.requires c.emissions_of.ensures c.in-Figure.ensures c.ranges.cell.sfits (search rules)

pub returns-in-Silent : goal.returns-in-Silent
returns-in-Silent c = nothing_added c.requires c.emissions_of.ensures c.in-Silent.ensures

pub returns-in-Figure : goal.returns-in-Figure
returns-in-Figure c = rest_regained c.requires c.emissions_of.ensures c.in-Figure.ensures c.ranges.cell.sfits (search rules)
