-- An entry's level in its working cell, and the levels that the cells of a period hold.
-- Assumes nothing.
use mathlib.Core.Path.{◌≡◌, refl, sym, ap, ap₂, ◌∙◌, subst}
use mathlib.Core.Bool.{Bool}
use mathlib.Core.List.{List, [], ◌∷◌, map}
use Prim.Native.Nat.{ℕ, ◌^◌, ◌<◌}
use native.Mathlib.Omega.{arith}
use lib.IntN.{ℤ, pos, ◌+ℤ◌}
use lib.Signed.{mag}
use mir.Syntax.{w16}
use mir.Val.{to_z, of_z}
use mir.Facts.{to_z-of_z}
use lib.ListN.{length, get_or, length-map}
use Rattle.decibel.proofs.Ints.{add_most, mag_most, most_mag}
use Rattle.decibel.specs.declared.Level.{Level}
use Rattle.decibel.specs.declared.Level.TheVariants.{Silent, Figure}
use Rattle.energy.specs.Total.{silent_cell}
use Rattle.figures.specs.declared.Period.{Period}
use Rattle.emission.specs.Emission.{emission_of, raised}
use Rattle.propagation.specs.Propagation.{segment_breakdown_by, added_up, propagation_of}
use Rattle.request.specs.Entry.{level_by}
use Rattle.figures.specs.Bounds.{Below}
use Rattle.emission.specs.Results.{SmallLevel}
use Rattle.study.specs.declared.Entry.{Entry}
use Rattle.study.specs.Plan.{Plan, segment_at}
use Rattle.request.specs.Levels.{level_at, levels_of, ground_marks, cell_of}
use Rattle.request.specs.Request.{cell_from}
use Rattle.request.proofs.Found.{own_mark, own_tenths}

-- ---- one cell

pub back16 : (z : ℤ) → mag z < 2 ^ 15 → to_z w16 (of_z w16 z) ≡ z
back16 z f = to_z-of_z {w = w16} {z = z} (record { sfits = f })

pub silent_raised : (d : ℤ) {l : Level} → l ≡ Silent → silent_cell ≡ cell_of (raised d l)
unfolding cell_of raised
silent_raised d e = rw e

pub figure_raised : (d : ℤ) {l : Level} {r : ℤ} → l ≡ Figure r → d +ℤ r ≡ cell_of (raised d l)
unfolding cell_of raised
figure_raised d e = rw e

pub raised_small : (d : ℤ) {l : Level} {r : ℤ} → mag d < 2 ^ 15 → SmallLevel 10000 l → l ≡ Figure r → mag (d +ℤ r) < 2 ^ 31
unfolding SmallLevel
raised_small d {l} {r} a b e =
    let c : Below 10000 r = subst (SmallLevel 10000) e b in
    omega (arith, add_most d r, mag_most (d +ℤ r), most_mag d, c.most, c.least)

-- what fits in 16 bits fits in 32
pub wide : (z : ℤ) → mag z < 2 ^ 15 → mag z < 2 ^ 31
wide z h = omega arith

-- ---- a period's cells

-- its levels as working cells hold them
abbrev pub cells_of : Period → Plan → List ℤ
cells_of p plan = map cell_of (levels_of p plan (ground_marks plan))

module _ (p : Period) (plan : Plan) where
  pub cells_length : length (cells_of p plan) ≡ length plan.entries
  unfolding levels_of
  cells_length = length-map (levels_of p plan (ground_marks plan)) cell_of ∙ length-map plan.entries (level_at p plan (ground_marks plan))

  -- an entry's level from what its segment adds by its own mark
  pub entry_level : (e : Entry) → level_at p plan (ground_marks plan) e ≡ raised (propagation_of (segment_at plan e.segment)).tenths (emission_of p e.train)
  unfolding level_at level_by
  entry_level e =
      let s = segment_at plan e.segment in
      ap (λ (d : ℤ). raised d (emission_of p e.train)) (ap (λ (b : Bool). added_up (segment_breakdown_by s b)) (own_mark plan e.segment) ∙ own_tenths s)

  -- and from what was found of it
  found_level : (tenths : List ℤ) → ((k : ℕ) → get_or tenths k (pos 0) ≡ (propagation_of (segment_at plan k)).tenths) → (e : Entry) → level_at p plan (ground_marks plan) e ≡ raised (get_or tenths e.segment (pos 0)) (emission_of p e.train)
  found_level tenths all e = entry_level e ∙ ap (λ (d : ℤ). raised d (emission_of p e.train)) (sym (all e.segment))

  -- and of all entries
  pub cells_found : (tenths : List ℤ) → ((k : ℕ) → get_or tenths k (pos 0) ≡ (propagation_of (segment_at plan k)).tenths) → map (cell_from p tenths) plan.entries ≡ cells_of p plan
  unfolding levels_of
  cells_found tenths all = go plan.entries
    where
      go : (es : List Entry) → map (cell_from p tenths) es ≡ map cell_of (map (level_at p plan (ground_marks plan)) es)
      go [] = refl
      go (e ∷ es) = ap₂ ◌∷◌ (ap cell_of (sym (found_level tenths all e))) (go es)
