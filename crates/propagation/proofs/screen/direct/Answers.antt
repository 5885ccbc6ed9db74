-- `propagation::screen::direct` meets its contract.
use mathlib.Core.Path.{sym, subst}
use Prim.Native.Nat.{ℕ, ◌≤◌}
use Rattle.propagation.proofs.DistanceStep.{slant_is}
use Rattle.propagation.proofs.ScreenStep.{third_fits, length_by}
use Rattle.propagation.proofs.screen.direct.Goals as goal
use Rattle.propagation.proofs.Chain.{in_range}

pub length_of-requires : goal.length_of-requires
length_of-requires c = let p = (in_range c.args.ranged) in subst (λ (n : ℕ). n ≤ 1800000000) (sym (slant_is p c.slant_of.ensures)) (third_fits p)

pub returns : goal.returns
returns c = length_by (slant_is (in_range c.args.ranged) c.slant_of.ensures) c.length_of.ensures
