-- A small number, on either side of zero, as naturals: what contracts cite so that sums fit.
-- Assumes nothing.
use Rattle.std.specs.Prelude.{ℕ, ◌<◌, ℤ}
use Rattle.decibel.specs.Ints.{up, dn}

-- the number is small, on either side of zero
pub record Below (bound : ℕ) (r : ℤ) : Type 0 where
  pub most : up r < bound
  pub least : dn r < bound
