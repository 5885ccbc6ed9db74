-- The vehicle table: its figures are small, and the code's array is the definition's list.
-- Assumes nothing.
use mathlib.Core.Path.{◌≡◌, refl, sym, ◌∙◌, ap, subst}
use Prim.Native.Nat.{ℕ, ◌-◌, ◌≤◌}
use native.Mathlib.Omega.{arith}
use lib.Dec.{T, leb, leb→le, lit≤}
use lib.IntN.{ℤ, pos}
use lib.ListN.{length, get_or}
use mir.Syntax.{w32}
use mir.Val.{SFits}
use Rattle.decibel.specs.Ints.{up}
use Rattle.decibel.proofs.Tests.{every_entry}
use Rattle.decibel.proofs.Table.{at_every}
use Rattle.figures.specs.declared.Train.{Train}
use Rattle.figures.specs.Rules.{most_row}
use Rattle.figures.specs.Bounds.{Below}
use Rattle.figures.specs.Private.{Exactly}
use Rattle.figures.proofs.Ranged.{Signed, TrainRanged}
use Rattle.emission.specs.Rolling.{rollings, rolling_tenths}

-- one test of the whole table
small_rows : T (every_entry (λ i x. leb x 180) 0 rollings)
unfolding rollings
small_rows = tt

count_rows : length rollings ≡ most_row
unfolding rollings
count_rows = refl

rolling_most : (row : ℕ) → 1 ≤ row → row ≤ most_row → get_or rollings (row - 1) 0 ≤ 180
rolling_most row l h = leb→le (get_or rollings (row - 1) 0) 180 (at_every (λ i x. leb x 180) rollings small_rows (row - 1) (omega (arith, count_rows)))

pub rolling_fits : (row : ℕ) → 1 ≤ row → row ≤ most_row → SFits w32 (pos (get_or rollings (row - 1) 0))
rolling_fits row l h = record { sfits = omega (arith, rolling_most row l h) }

pub rolling_lies : (t : Train) → TrainRanged t → Signed 0 180 (rolling_tenths t)
unfolding rolling_tenths
rolling_lies t g = record { most = rolling_most (up t.row) g.row.least g.row.most; least = lit≤ tt }

pub rolling_is : (t : Train) {n : ℕ} {r : ℤ} → TrainRanged t → n ≡ up t.row → r ≡ pos (get_or rollings (n - 1) 0) → Exactly (rolling_tenths t) r
unfolding rolling_tenths
rolling_is t g e i =
    let q = i ∙ ap (λ (k : ℕ). pos (get_or rollings (k - 1) 0)) e in
    let l = rolling_lies t g in
    record { is = q; small = subst (Below 2000) (sym q) (record { most = omega (arith, l.most); least = omega (arith, l.least) }) }
