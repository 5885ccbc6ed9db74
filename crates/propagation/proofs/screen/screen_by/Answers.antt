-- `propagation::screen::screen_by` meets its contract.
use Rattle.propagation.proofs.ScreenStep.{screen_shaded, screen_lit, screen_clear}
use Rattle.propagation.proofs.screen.screen_by.Goals as goal

pub returns-then-shaded : goal.returns-then-shaded
returns-then-shaded c = screen_shaded c.if-shaded.true (c.requires c.if-shaded.true) c.shadow_tenths.ensures

pub returns-then-m-le4000000 : goal.returns-then-m-le4000000
returns-then-m-le4000000 c = screen_lit c.if-shaded.false c.if-m-le4000000.true c.illuminated_tenths.ensures

pub returns : goal.returns
returns c = screen_clear c.if-shaded.false c.if-m-le4000000.false
