-- The angle step (01, "The steps"; Chart 7, paragraph 30).
-- Assumes nothing.
use Rattle.std.specs.Prelude.{ℕ, ◌*◌, ◌/◌, ℤ, pos, ◌-ℤ◌, ◌*ℤ◌}
use Rattle.std.specs.Int.Signed.{quot_z}
use Rattle.decibel.specs.Ints.{up}
use Rattle.decibel.specs.Log.{fence}
use Rattle.decibel.specs.Sine.{sine_at, cosine_at}
use Rattle.figures.specs.declared.Segment.{Segment}

-- y (Figure 9) in billionths: the arc cut down, less sin θ times cos a cut toward zero
unfoldable pub y_of : ℕ → ℕ → ℤ
y_of view doubled = pos (3141592654 * view / 180) -ℤ quot_z (sine_at view *ℤ cosine_at doubled) (pos 1000000000)

-- 10 log y - 5
unfoldable pub angle_fence : Segment → ℤ
angle_fence s = fence 0 10000000 (up (y_of (up s.view) (up s.doubled))) 1000000000 -ℤ pos 5000000
