-- What the cells hold after a request that was answered by the program's own marks: each period's levels from its first cell on.
-- Assumes nothing.
use mathlib.Core.Path.{◌≡◌, refl, sym, ap, ◌∙◌}
use mathlib.Core.List.{List, ◌++◌, map}
use Prim.Native.Nat.{ℕ, ◌+◌, ◌≤◌, zero-le}
use native.Mathlib.Nat.{le_refl}
use lib.IntN.{ℤ}
use lib.ListN.{length, take, drop}
use lib.Seq.{take_at, drop_at}
use Rattle.figures.specs.declared.Period.{Period}
use Rattle.figures.specs.declared.Period.TheVariants.{Day, Night}
use Rattle.study.specs.Plan.{Plan}
use Rattle.request.specs.Levels.{levels_of, level_at, cell_of, own_marks}
use Rattle.request.specs.Request.{levels_check, laid, first_cell, cells_by}
use Rattle.request.proofs.Cells.{cells_of, cells_length}
use Rattle.std.specs.Prelude.{Ok}

-- the totals' own marks change no entry's level
pub own_cells : (p : Period) (plan : Plan) → map cell_of (levels_of p plan (own_marks plan)) ≡ cells_of p plan
unfolding levels_of level_at own_marks
own_cells p plan = refl

-- no period's levels begin past as many cells as there are entries
pub first_most : (p : Period) (n : ℕ) → first_cell p n ≤ n
unfolding first_cell
first_most Day n = zero-le
first_most Night n = le_refl n

-- the two parts
parts_are : (p : Period) (plan : Plan) (rest : List ℤ) {n : ℕ} → n ≡ length plan.entries → take n (drop (first_cell p n) (cells_of Day plan ++ (cells_of Night plan ++ rest))) ≡ cells_of p plan
unfolding first_cell
parts_are Day plan rest e = take_at (cells_of Day plan) (cells_of Night plan ++ rest) _ (cells_length Day plan ∙ sym e)
parts_are Night plan rest {n} e =
    ap (take n) (drop_at (cells_of Day plan) (cells_of Night plan ++ rest) n (cells_length Day plan ∙ sym e))
    ∙ take_at (cells_of Night plan) rest n (cells_length Night plan ∙ sym e)

pub period_laid : (p : Period) (plan : Plan) (before : List ℤ) {after : List ℤ} {n : ℕ} → levels_check plan (length before) ≡ Ok tt → after ≡ cells_by (levels_check plan (length before)) plan (own_marks plan) before
    → n ≡ length plan.entries → take n (drop (first_cell p n) after) ≡ cells_of p plan
unfolding cells_by laid
period_laid p plan before {after} {n} ok e size =
    let rest = drop (length (cells_of Day plan) + length (cells_of Night plan)) before in
    let both : after ≡ cells_of Day plan ++ (cells_of Night plan ++ rest) = e ∙ rw (ok, own_cells Day plan, own_cells Night plan) refl in
    ap (λ (cs : List ℤ). take n (drop (first_cell p n) cs)) both ∙ parts_are p plan rest size
