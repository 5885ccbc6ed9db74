-- What contracts of private functions cite, here and in the crates above.
-- Assumes nothing.
use Rattle.std.specs.Prelude.{◌≡◌, ℕ, ◌<◌, ℤ}
use Rattle.figures.specs.Geometry.{squared}
use Rattle.figures.specs.Bounds.{Below}

-- r is v, and small
pub record Exactly (v r : ℤ) : Type 0 where
  pub is : r ≡ v
  pub small : Below 2000 r

pub record Square (a : ℤ) (r : ℕ) : Type 0 where
  pub is : r ≡ squared a
  pub small : r < 4700000000000000000
