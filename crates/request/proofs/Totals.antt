-- The levels that a period's cells hold are the figures of its entries, and each entry is heard in its cell.
-- Assumes nothing.
use mathlib.Core.Path.{◌≡◌, refl}
use mathlib.Core.List.{List, [], ◌∷◌, map}
use Prim.Native.Nat.{ℕ, suc, ◌≤◌}
use native.Mathlib.Omega.{arith}
use lib.IntN.{ℤ, pos, negsuc}
use lib.Signed.{le_z, ◌≤ℤ◌}
use lib.ListN.{length}
use Rattle.decibel.proofs.Ints.{ints}
use Rattle.decibel.specs.declared.Level.{Level}
use Rattle.decibel.specs.declared.Level.TheVariants.{Silent, Figure}
use Rattle.energy.specs.Total.{heard}
use Rattle.energy.specs.Mark.{height_of, loudest_of}
use Rattle.energy.specs.Rising.{LevelsKept, none, next}
use Rattle.energy.proofs.Levels.{height_is, louder}
use Rattle.energy.proofs.Order.{le_true, lt_false}
use Rattle.figures.specs.declared.Period.{Period}
use Rattle.emission.specs.Emission.{emission_of, raised}
use Rattle.propagation.specs.Propagation.{segment_breakdown_by, added_up}
use Rattle.request.specs.Entry.{level_by}
use Rattle.figures.proofs.Ranged.{Signed}
use Rattle.study.specs.declared.Entry.{Entry}
use Rattle.study.specs.Plan.{Plan, segment_at}
use Rattle.request.specs.Levels.{Marks, mark_at, level_at, figures, cell_of, is_heard, heard_at}
use Rattle.request.specs.Request.{sounds_at, places_of}
use Rattle.request.proofs.EntryLevels.{levels_lie}

-- a level from -200 to 180 dB, or silent
abbrev pub Lies : Level → Type 0
Lies l = (r : ℤ) → l ≡ Figure r → Signed 2000 1800 r

module _ {r : ℤ} (lies : Signed 2000 1800 r) where
  at_least : negsuc 1999 ≤ℤ r
  at_least = omega (arith, ints, lies.least)

  at_most : r ≤ℤ pos 2000
  at_most = omega (arith, ints, lies.most)

-- one level more
kept_more : (l : Level) (ls : List Level) → Lies l → LevelsKept (figures ls) → LevelsKept (figures (l ∷ ls))
unfolding figures
kept_more Silent ls lies h = h
kept_more (Figure r) ls lies h = next (at_least (lies r refl)) (at_most (lies r refl)) h

-- the loudest has a height of 3801 at most: that of 180 dB
loudest_more : (l : Level) (ls : List Level) → Lies l → loudest_of (figures ls) ≤ 3801 → loudest_of (figures (l ∷ ls)) ≤ 3801
unfolding figures loudest_of
loudest_more Silent ls lies h = h
loudest_more (Figure r) ls lies h =
    let top = lies r refl in
    louder (λ t. t ≤ 3801) (height_of r) (loudest_of (figures ls)) (λ _. h) (λ _. omega (arith, top.most, top.least, height_is r (at_least top)))

few_more : (l : Level) (ls : List Level) {n : ℕ} → length (figures ls) ≤ n → length (figures (l ∷ ls)) ≤ suc n
unfolding figures
few_more Silent ls h = omega arith
few_more (Figure r) ls h = omega arith

heard_more : (l : Level) (ls : List Level) → Lies l → heard (map cell_of ls) ≡ figures ls → heard (map cell_of (l ∷ ls)) ≡ figures (l ∷ ls)
unfolding heard figures cell_of
heard_more Silent ls lies e = e
heard_more (Figure r) ls lies e = rw (lt_false r (negsuc 1999) (at_least (lies r refl)), lt_false (pos 2000) r (at_most (lies r refl)), e)

module _ (p : Period) (plan : Plan) (m : Marks) where
  entry_lies : (e : Entry) → Lies (level_at p plan m e)
  unfolding level_at
  entry_lies e = levels_lie p (segment_at plan e.segment) (mark_at m e.segment) e.train

  pub figures-kept : (es : List Entry) → LevelsKept (figures (map (level_at p plan m) es))
  unfolding figures
  figures-kept [] = none
  figures-kept (e ∷ es) = kept_more (level_at p plan m e) (map (level_at p plan m) es) (entry_lies e) (figures-kept es)

  pub figures_loudest : (es : List Entry) → loudest_of (figures (map (level_at p plan m) es)) ≤ 3801
  unfolding figures loudest_of
  figures_loudest [] = omega arith
  figures_loudest (e ∷ es) = loudest_more (level_at p plan m e) (map (level_at p plan m) es) (entry_lies e) (figures_loudest es)

  pub figures_few : (es : List Entry) → length (figures (map (level_at p plan m) es)) ≤ length es
  unfolding figures
  figures_few [] = omega arith
  figures_few (e ∷ es) = few_more (level_at p plan m e) (map (level_at p plan m) es) (figures_few es)

  -- what the cells hold
  pub cells_heard : (es : List Entry) → heard (map cell_of (map (level_at p plan m) es)) ≡ figures (map (level_at p plan m) es)
  unfolding heard figures
  cells_heard [] = refl
  cells_heard (e ∷ es) = heard_more (level_at p plan m e) (map (level_at p plan m) es) (entry_lies e) (cells_heard es)

  -- an entry's cell holds a level where the entry has trains
  cell_sounds : (e : Entry) → le_z (negsuc 1999) (cell_of (level_at p plan m e)) ≡ is_heard (emission_of p e.train)
  unfolding level_at level_by raised cell_of is_heard
  cell_sounds e = go (emission_of p e.train) (entry_lies e)
    where
      d : ℤ
      d = added_up (segment_breakdown_by (segment_at plan e.segment) (mark_at m e.segment))

      go : (l : Level) → Lies (raised d l) → le_z (negsuc 1999) (cell_of (raised d l)) ≡ is_heard l
      go Silent lies = refl
      go (Figure r) lies = le_true (negsuc 1999) _ (at_least (lies _ refl))

  pub cells_sound : (k : ℕ) (es : List Entry) → sounds_at k (places_of es) (map cell_of (map (level_at p plan m) es)) ≡ heard_at p k es
  unfolding sounds_at heard_at
  cells_sound k [] = refl
  cells_sound k (e ∷ es) = rw (cell_sounds e, cells_sound k es)
