-- The answer of a study: what was read of it and its levels in the cells are those of its plan.
-- Assumes nothing.
use mathlib.Core.Path.{◌≡◌, refl, ap, ap₂, ◌∙◌}
use mathlib.Core.List.{List}
use Prim.Native.Nat.{ℕ, ◌+◌, ◌-◌, ◌≤◌}
use native.Mathlib.Omega.{arith}
use lib.IntN.{ℤ}
use lib.ListN.{length, take, drop}
use Rattle.figures.specs.declared.Period.{Period}
use Rattle.study.specs.Plan.{Plan}
use Rattle.study.specs.Add.{ours}
use Rattle.request.specs.Request.{Answer, cells_needed, levels_check, first_cell, cell_in, Answered}
use Rattle.request.proofs.Demand3.{request_answered}
use Rattle.request.proofs.Laid.{period_laid}
use Rattle.speeds.specs.Speeds.{SpeedAnswer, at_speed, SpeedAnswered, SpeedAnsweredFrom}
use Rattle.speeds.proofs.OfPlan.{entry_in, added_in, plan_answered}
use Rattle.std.specs.Prelude.{Ok}

-- a part of the cells, from its beginning to its end
pub part_is : (cells : List ℤ) (n : ℕ) {from first : ℕ} → from ≡ first → take (from + n - from) (drop from cells) ≡ take n (drop first cells)
part_is cells n {from} e = let size : from + n - from ≡ n = omega arith in ap₂ (λ (k j : ℕ). take k (drop j cells)) size e

module _ (plan : Plan) (entry : ℕ) (p : Period) (limit : ℤ) (few : length plan.entries ≤ ours.entries) (some : 1 ≤ entry) (within : entry ≤ length plan.entries) where
  pub study_answered : {before after : List ℤ} {a : Answer} → Answered plan before after a → cells_needed ours.entries ≤ length before → {from : ℕ} → from ≡ first_cell p (length plan.entries)
      → {tenths : ℤ} → tenths ≡ added_in p plan (entry - 1) → {r : SpeedAnswer}
      → SpeedAnsweredFrom (take ours.entries (take (from + length plan.entries - from) (drop from after))) entry tenths (entry_in p plan (entry - 1)).train p limit r → SpeedAnswered plan entry p limit r
  study_answered {before} {after} q room {from} first t s =
      let ok : levels_check plan (length before) ≡ Ok tt = request_answered plan (length before) (omega arith) (omega arith) in
      plan_answered plan entry p limit few (part_is after (length plan.entries) first ∙ period_laid p plan before ok q.by.cells refl) (λ v. ap (λ (d : ℤ). cell_in p d (at_speed v (entry_in p plan (entry - 1)).train)) t) s
