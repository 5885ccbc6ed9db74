-- Signed lengths of a segment (01, "h is negative when the window is below the railhead"), and the shadow test.
-- Assumes nothing.
use Rattle.std.specs.Prelude.{Bool, ℕ, ◌+◌, ℤ, ◌*ℤ◌}
use Rattle.std.specs.Int.Signed.{le_z}
use Rattle.decibel.specs.Ints.{up}
use Rattle.figures.specs.declared.Segment.{Segment}

-- the square of a signed number of centimetres
unfoldable pub squared : ℤ → ℕ
squared z = up (z *ℤ z)

-- the square of a length with these two legs
unfoldable pub slant : ℤ → ℤ → ℕ
slant x y = squared x + squared y

-- d'², the square of the slant distance from source to window
unfoldable pub slant_square : Segment → ℕ
slant_square s = slant s.distance s.height

-- the window is in the shadow zone (paragraph 24, Figure 4): b · d is at least h · D
unfoldable pub in_shadow : Segment → Bool
in_shadow s = le_z (s.height *ℤ s.setback) (s.top *ℤ s.distance)
