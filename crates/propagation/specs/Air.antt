-- The air step (01, "The steps"; Chart 4, paragraph 20).
-- Assumes nothing.
use Rattle.std.specs.Prelude.{cond, ℕ, suc, ◌*◌, ◌≤◌, leb, ℤ, pos, ◌-ℤ◌, ◌≤ℤ◌}
use Rattle.std.proofs.Math.IntN.{sub_ℕ}
use Rattle.decibel.specs.Greatest.{whole_root}
use Rattle.figures.specs.declared.Segment.{Segment}
use Rattle.figures.specs.Geometry.{squared, slant_square}

-- the least whole number whose square is at least n
unfoldable pub root_up : ℕ → ℕ
root_up n = cond (leb n (whole_root 2 n * whole_root 2 n)) (whole_root 2 n) (suc (whole_root 2 n))

-- 0.2 - 0.008 d', d' in metres, that is 80 microdecibels a centimetre; the root is not cut
unfoldable pub air_fence : Segment → ℤ
air_fence s = sub_ℕ 200000 (root_up (6400 * slant_square s))

-- its exact value is at least m: 80·d' is at most 200,000 - m, and 6400·d'² at most its square, so that no root is taken
pub record AirAtLeast (s : Segment) (m : ℤ) : Type 0 where
  pub under : m ≤ℤ pos 200000
  pub square : 6400 * slant_square s ≤ squared (pos 200000 -ℤ m)
