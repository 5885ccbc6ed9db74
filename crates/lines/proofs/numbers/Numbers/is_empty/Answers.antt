-- `lines::numbers::Numbers::is_empty` meets its contract: behind the last word nothing is left.
use Rattle.lines.proofs.Values.{nothing_left}
use Rattle.lines.proofs.numbers.Numbers.is_empty.Goals as goal

pub returns : goal.returns
returns c = nothing_left c.self.inside.rest c.self.view_is c.is_none.ensures
