-- `speeds::Asked::is_below_at` meets its contract.
use Rattle.std.proofs.Common.{arith, rules, length-set, take_all, set, refl, ◌∙◌, ◌≡◌}
use Rattle.decibel.proofs.Words.{back}
use Rattle.energy.specs.Total.{heard}
use Rattle.energy.specs.Mark.{total_of}
use Rattle.speeds.proofs.Asked.is_below_at.Goals as goal

pub returns : goal.returns
returns c =
    let q = c.args.self.now in
    let own = c.cell_at.result in
    let changed = set q.cells.now q.place own in
    let total : c.total_of.result ≡ total_of (heard changed) =
    c.total_of.ensures.is ∙ rw (back own c.cell_at.type_inv, c.copy_from_slice.ensures.after, take_all 96 changed (omega (arith, q.few, length-set q.cells.now q.place own))) in
    c.is_below.ensures ∙ rw (back q.limit (search rules), total, c.cell_at.ensures) refl
