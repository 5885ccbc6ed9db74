-- What contracts of this crate's private functions cite.
-- Assumes nothing.
use Rattle.std.specs.Prelude.{◌≡◌}
use Rattle.decibel.specs.declared.Level.{Level}
use Rattle.emission.specs.Results.{SmallLevel}

-- the trains step
pub record Runs (v r : Level) : Type 0 where
  pub is : r ≡ v
  pub small : SmallLevel 2000 r
