-- `energy::weigh` meets its contract.
use mathlib.Core.Path.{◌≡◌, sym, ◌∙◌, ap}
use Rattle.std.proofs.Common.{rules, sum_by}
use Rattle.decibel.proofs.Words.{back}
use Rattle.energy.specs.Private.{height_at, weight_at}
use Rattle.energy.proofs.Cells.{figure_height, weights_added}
use Rattle.energy.proofs.weigh.Goals as goal

pub returns : goal.returns
returns c =
    let f = c.figure-loud in
    let cells = c.args.cells.now in
    let top = c.args.top in
    let h = ap height_at (back f.result f.type_inv ∙ f.ensures) ∙ figure_height top.tenths top.bounded.1 in
    let s : c.sum.result ≡ sum_by (weight_at top.tenths) cells = search (rules, h) in
    s ∙ sym (weights_added top.tenths cells)
