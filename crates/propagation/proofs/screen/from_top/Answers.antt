-- `propagation::screen::from_top` meets its contract.
use mathlib.Core.Path.{sym, subst}
use Prim.Native.Nat.{ℕ, ◌≤◌}
use Rattle.propagation.proofs.ScreenStep.{second_square, second_fits, length_by, depth_fits, rise_fits}
use Rattle.propagation.proofs.screen.from_top.Goals as goal
use Rattle.propagation.proofs.Chain.{in_range}

pub length_of-requires : goal.length_of-requires
length_of-requires c = let p = (in_range c.args.ranged) in subst (λ (n : ℕ). n ≤ 1800000000) (sym (second_square p c.slant_of.ensures)) (second_fits p)

pub returns : goal.returns
returns c = length_by (second_square (in_range c.args.ranged) c.slant_of.ensures) c.length_of.ensures

pub overflow_sub-s : goal.overflow_sub-s
overflow_sub-s c = depth_fits (in_range c.args.ranged)

pub overflow_sub-s-2 : goal.overflow_sub-s-2
overflow_sub-s-2 c = rise_fits (in_range c.args.ranged)
