-- `energy::loudest` meets its contract.
use mathlib.Core.Path.{◌≡◌, sym, ◌∙◌, ap, subst}
use Prim.Native.Nat.{ℕ}
use mir.Syntax.{w32}
use mir.Val.{to_z, of_z}
use Rattle.std.proofs.Common.{rules}
use Rattle.std.proofs.lemmas.Iterator.{YieldsList-from_slice}
use Rattle.std.specs.Option.{option_map, MatchOption}
use Rattle.energy.specs.Private.{height_at}
use Rattle.energy.proofs.Cells.{loudest_is, none_largest, largest_from_yields}
use Rattle.energy.proofs.loudest.Goals as goal

pub returns-in_err-max : goal.returns-in_err-max
returns-in_err-max c =
    let cells = c.args.cells.now in
    let largest = largest_from_yields (λ r. r.now) _ c.max.result c.max.ensures.ran (YieldsList-from_slice cells (cc)) in
    let none = none_largest cells (sym (ap (option_map (λ r. r.now)) c.in_err-max.was) ∙ largest) in rw c.from_residual.ensures none

pub returns : goal.returns
returns c =
    let cells = c.args.cells.now in
    let largest = largest_from_yields (λ r. r.now) _ c.max.result c.max.ensures.ran (YieldsList-from_slice cells (cc)) in
    let same : to_z w32 (of_z w32 c.in_ok-max.field-0.now) ≡ c.in_ok-max.field-0.now = search rules in
    let e = ap height_at same ∙ loudest_is cells (sym (ap (option_map (λ r. r.now)) c.in_ok-max.was) ∙ largest) in
    subst (λ (n : ℕ). MatchOption c.cell_height.result (n ≡ 0) (λ h. h.tenths ≡ n)) e c.cell_height.ensures
