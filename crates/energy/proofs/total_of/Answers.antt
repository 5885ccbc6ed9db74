-- `energy::total_of` meets its contract.
use mathlib.Core.Path.{◌∙◌, ap}
use mathlib.Core.List.{List}
use native.Mathlib.Omega.{arith}
use lib.IntN.{ℤ}
use lib.ListN.{take}
use Rattle.std.proofs.lemmas.List.{take_min}
use Rattle.energy.specs.Total.{heard}
use Rattle.energy.specs.Mark.{total_of}
use Rattle.energy.proofs.Whole.{mark_allowed}
use Rattle.energy.proofs.total_of.Goals as goal

pub returns : goal.returns
returns c =
    let cells = c.args.cells.now in
    let first = ap (λ n. take n cells) (omega arith) ∙ take_min 96 cells in
    let is = c.bounded_total.ensures ∙ ap (λ (xs : List ℤ). total_of (heard xs)) first in
    record { is = is; allowed = mark_allowed cells is }
