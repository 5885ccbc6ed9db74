-- The step of opposite facades (01, "The steps"; paragraph 31.2).
-- Assumes nothing.
use Rattle.std.specs.Prelude.{◌*◌, ◌/◌, ℤ, pos, ◌*ℤ◌, ◌≤ℤ◌}
use Rattle.decibel.specs.Ints.{up}
use Rattle.figures.specs.declared.Segment.{Segment}

-- 1.5 θ' / θ
unfoldable pub opposite_fence : Segment → ℤ
opposite_fence s = pos (1500000 * up s.opposite / up s.view)

-- its exact value is at least m: 1,500,000 microdecibels times θ' are at least θ times m, so that nothing is divided
unfoldable pub OppositeAtLeast : Segment → ℤ → Type 0
OppositeAtLeast s m = (pos (up s.view) *ℤ m) ≤ℤ pos (1500000 * up s.opposite)
