-- `emission::raise` meets its contract.
use Rattle.emission.proofs.Emission.{silent_stays, raise_fits, figure_rises}
use Rattle.emission.proofs.raise.Goals as goal

pub overflow_add-result : goal.overflow_add-result
overflow_add-result c = raise_fits c.in-Figure.is c.requires.0 c.requires.1

pub returns-in-Silent : goal.returns-in-Silent
returns-in-Silent c = silent_stays c.args.base c.in-Silent.is

pub returns-in-Figure : goal.returns-in-Figure
returns-in-Figure c = figure_rises c.in-Figure.is c.requires.0 c.requires.1
