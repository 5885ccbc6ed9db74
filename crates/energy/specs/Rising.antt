-- What it means that levels rise, and that a total does not fall (the law is `total_rises` of proofs/Rising.antt).
-- Assumes nothing.
use Rattle.std.specs.Prelude.{List, [], ◌∷◌, ℤ, pos, negsuc, ◌≤ℤ◌}
use Rattle.decibel.specs.declared.Level.{Level}
use Rattle.decibel.specs.declared.Level.TheVariants.{Silent, Figure}

-- every level is from -200 to 200 dB, in tenths
pub data LevelsKept : List ℤ → Type 0 where
  none : LevelsKept []
  next : {l : ℤ} {ls : List ℤ} → negsuc 1999 ≤ℤ l → l ≤ℤ pos 2000 → LevelsKept ls → LevelsKept (l ∷ ls)

-- each level of the first list has its place in the second, in order, and is at least as high there; the second may have more levels
pub data Rises : List ℤ → List ℤ → Type 0 where
  end : Rises [] []
  more : {y : ℤ} {xs ys : List ℤ} → Rises xs ys → Rises xs (y ∷ ys)
  then : {x y : ℤ} {xs ys : List ℤ} → x ≤ℤ y → Rises xs ys → Rises (x ∷ xs) (y ∷ ys)

-- working cells: each at most that at the same place of the second list
pub data CellsRise : List ℤ → List ℤ → Type 0 where
  last : CellsRise [] []
  cell : {c d : ℤ} {cs ds : List ℤ} → c ≤ℤ d → CellsRise cs ds → CellsRise (c ∷ cs) (d ∷ ds)

-- a level is at most another; silent is the lowest
pub data LevelAtMost : Level → Level → Type 0 where
  silent_lowest : {l : Level} → LevelAtMost Silent l
  figure_at_most : {f g : ℤ} → f ≤ℤ g → LevelAtMost (Figure f) (Figure g)
