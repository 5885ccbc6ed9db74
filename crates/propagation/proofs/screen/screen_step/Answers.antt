-- `propagation::screen::screen_step` meets its contract.
use Rattle.std.proofs.Common.{arith, sym, ◌∙◌, subst, ℕ, ◌≤◌}
use Rattle.propagation.specs.Screen.{most_shadow}
use Rattle.propagation.specs.Private.{Screens}
use Rattle.figures.proofs.Signs.{exactly_by}
use Rattle.propagation.proofs.WallLoss.{few_metres, lossless, loss_fits, loss_cut}
use Rattle.propagation.proofs.ScreenStep.{screen_is}
use Rattle.propagation.proofs.screen.screen_step.Goals as goal
use Rattle.propagation.proofs.Chain.{in_range, ranges, no_screen, with_screen}

pub returns-in_err-difference : goal.returns-in_err-difference
unfolding Screens
returns-in_err-difference c = rw c.from_residual.ensures (no_screen _ (sym c.in_err-difference.was ∙ c.args.kept.differs))

pub screen_by-step-requires : goal.screen_by-step-requires
screen_by-step-requires c = λ h.
    let k = c.args.kept in
    let d = with_screen _ _ (sym c.in_ok-difference.was ∙ k.differs) in
    subst (λ (m : ℕ). m ≤ most_shadow) (sym d.1) ((ranges _ k.kept).shadow d.0 (sym c.in_shadow.ensures ∙ h))

pub returns-then-metres-lt1 : goal.returns-then-metres-lt1
unfolding Screens
returns-then-metres-lt1 c =
    let b = c.screen_by-step in
    let d = with_screen _ _ (sym c.in_ok-difference.was ∙ c.args.kept.differs) in
    (d.0, exactly_by (screen_is c.args.kept.ranged.segment c.in_shadow.ensures d.1 c.wall_metres-metres.ensures b.ensures) (lossless c.wall_metres-metres.result b.result b.ensures.small (omega (arith, c.if-metres-lt1.true))))

pub overflow_mul-metres : goal.overflow_mul-metres
overflow_mul-metres c = omega (arith, few_metres (in_range c.args.kept.ranged) c.wall_metres-metres.ensures)

pub overflow_cast-metres : goal.overflow_cast-metres
overflow_cast-metres c = record { sfits = omega (arith, few_metres (in_range c.args.kept.ranged) c.wall_metres-metres.ensures) }

pub overflow_add-step : goal.overflow_add-step
overflow_add-step c = loss_fits c.wall_metres-metres.result c.screen_by-step.result c.screen_by-step.ensures.small (few_metres (in_range c.args.kept.ranged) c.wall_metres-metres.ensures)

pub returns : goal.returns
unfolding Screens
returns c =
    let b = c.screen_by-step in
    let d = with_screen _ _ (sym c.in_ok-difference.was ∙ c.args.kept.differs) in
    (d.0, exactly_by (screen_is c.args.kept.ranged.segment c.in_shadow.ensures d.1 c.wall_metres-metres.ensures b.ensures) (loss_cut c.wall_metres-metres.result b.result b.ensures.small (few_metres (in_range c.args.kept.ranged) c.wall_metres-metres.ensures) (omega (arith, c.if-metres-lt1.false)) c.min.ensures.value))
