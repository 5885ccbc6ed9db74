-- `propagation::screen::to_top` meets its contract.
use mathlib.Core.Path.{sym, subst}
use Prim.Native.Nat.{ℕ, ◌≤◌}
use Rattle.propagation.proofs.ScreenStep.{first_square, first_fits}
use Rattle.propagation.proofs.screen.to_top.Goals as goal
use Rattle.propagation.proofs.Chain.{in_range}

pub length_of-requires : goal.length_of-requires
length_of-requires c = let p = (in_range c.args.ranged) in subst (λ (n : ℕ). n ≤ 1800000000) (sym (first_square p c.slant_of.ensures)) (first_fits p)
