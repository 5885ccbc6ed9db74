-- `energy::weight` meets its contract.
use Rattle.energy.proofs.Rules.{weight_near}
use Rattle.energy.proofs.weight.Goals as goal

pub returns-then-j-lt100 : goal.returns-then-j-lt100
returns-then-j-lt100 c = weight_near _ c.if-j-lt100.true
