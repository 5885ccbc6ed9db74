-- Parts of a list of bytes between separators: words between spaces (32), lines between line feeds (10).
-- Assumes nothing.
use Rattle.std.specs.Prelude.{ℕ, cond, List, [], ◌∷◌, ◌==◌, Option, None, Some}

-- the bytes before the first separator; all of them where there is none
unfoldable pub until : ℕ → List ℕ → List ℕ
until sep [] = []
until sep (b ∷ bs) = cond (b == sep) [] (b ∷ until sep bs)

-- one more byte at the front of the first part
unfoldable pub onto : ℕ → List (List ℕ) → List (List ℕ)
onto b [] = (b ∷ []) ∷ []
onto b (p ∷ ps) = (b ∷ p) ∷ ps

-- the parts before, between and after the separators, empty ones too: always one more than there are separators
unfoldable pub split : ℕ → List ℕ → List (List ℕ)
unfolding onto
split sep [] = [] ∷ []
split sep (b ∷ bs) = cond (b == sep) ([] ∷ split sep bs) (onto b (split sep bs))

-- what stands behind the first separator; none where there is none
unfoldable pub past : ℕ → List ℕ → Option (List ℕ)
past sep [] = None
past sep (b ∷ bs) = cond (b == sep) (Some bs) (past sep bs)
