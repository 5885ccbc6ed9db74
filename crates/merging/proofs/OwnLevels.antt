-- In joined lists each entry has the segment, and so the level and the fence, that it has in its own.
-- Assumes nothing.
use mathlib.Core.Path.{◌≡◌, refl, sym, ap₂, ◌∙◌}
use mathlib.Core.Bool.{Bool, true, false, cond}
use mathlib.Core.List.{List, [], ◌∷◌, ◌++◌, map, map-append}
use Prim.Native.Nat.{ℕ, ◌+◌, ◌<◌}
use lib.ListN.{length, get_or-append}
use lib.Seq.{get_or-append-add}
use Rattle.figures.specs.declared.Period.{Period}
use Rattle.propagation.specs.Propagation.{propagation_of}
use Rattle.emission.specs.Trains.{sounds}
use Rattle.study.specs.declared.Entry.{Entry}
use Rattle.study.specs.Plan.{Plan, segment_at, no_segment}
use Rattle.study.specs.Add.{Limits}
use Rattle.study.proofs.Plans.{Each, none, next, EntryHeld, PlanHeld}
use Rattle.request.specs.Entry.{level_by, entry_fence}
use Rattle.request.specs.Levels.{level_at, levels_of, own_marks}
use Rattle.request.specs.Accuracy.{fences_of}
use Rattle.request.proofs.Counts.{own_marks_lem}
use Rattle.merging.specs.Joined.{raised_by, joined}

module _ (p : Period) where
  -- an entry's level by its own segment alone
  by_segment : (plan : Plan) (e : Entry) → level_at p plan (own_marks plan) e ≡ level_by p (segment_at plan e.segment) (propagation_of (segment_at plan e.segment)).close e.train
  unfolding level_at
  by_segment plan e = rw (own_marks_lem plan e.segment) refl

  same-level : (plan other : Plan) (e f : Entry) → segment_at plan e.segment ≡ segment_at other f.segment → e.train ≡ f.train → level_at p plan (own_marks plan) e ≡ level_at p other (own_marks other) f
  same-level plan other e f s t = by_segment plan e ∙ rw (s, t) refl ∙ sym (by_segment other f)

module _ (a b : Plan) where
  -- a place of the first list, and one of the second
  pub first_place : (k : ℕ) → k < length a.segments → segment_at (joined a b) k ≡ segment_at a k
  unfolding joined
  first_place k h = get_or-append a.segments b.segments no_segment k h

  pub second_place : (k : ℕ) → segment_at (joined a b) (length a.segments + k) ≡ segment_at b k
  unfolding joined
  second_place k = get_or-append-add a.segments b.segments k no_segment

  module _ (p : Period) where
    first_levels : {es : List Entry} → Each (EntryHeld a.segments) es → map (level_at p (joined a b) (own_marks (joined a b))) es ≡ map (level_at p a (own_marks a)) es
    first_levels none = refl
    first_levels (next {x = e} held rest) = ap₂ ◌∷◌ (same-level p (joined a b) a e e (first_place e.segment held.segment) refl) (first_levels rest)

    second_levels : (es : List Entry) → map (level_at p (joined a b) (own_marks (joined a b))) (map (raised_by (length a.segments)) es) ≡ map (level_at p b (own_marks b)) es
    unfolding raised_by
    second_levels [] = refl
    second_levels (e ∷ es) = ap₂ ◌∷◌ (same-level p (joined a b) b (raised_by (length a.segments) e) e (second_place e.segment) refl) (second_levels es)

    fences_append : (plan : Plan) (es fs : List Entry) → fences_of p plan (es ++ fs) ≡ fences_of p plan es ++ fences_of p plan fs
    unfolding fences_of
    fences_append plan [] fs = refl
    fences_append plan (e ∷ es) fs = rw (fences_append plan es fs) (go (sounds p e.train))
      where
        go : (heard : Bool) → let f = entry_fence p (segment_at plan e.segment) e.train in let xs = fences_of p plan es in let ys = fences_of p plan fs in
            cond heard (f ∷ (xs ++ ys)) (xs ++ ys) ≡ cond heard (f ∷ xs) xs ++ ys
        go true = refl
        go false = refl

    first_fences : {es : List Entry} → Each (EntryHeld a.segments) es → fences_of p (joined a b) es ≡ fences_of p a es
    unfolding fences_of
    first_fences none = refl
    first_fences (next {x = e} held rest) = rw (first_place e.segment held.segment, first_fences rest) refl

    second_fences : (es : List Entry) → fences_of p (joined a b) (map (raised_by (length a.segments)) es) ≡ fences_of p b es
    unfolding fences_of raised_by
    second_fences [] = refl
    second_fences (e ∷ es) = rw (second_place e.segment, second_fences es) refl

    module _ {l : Limits} (held : PlanHeld l a) where
      pub own_levels : levels_of p (joined a b) (own_marks (joined a b)) ≡ levels_of p a (own_marks a) ++ levels_of p b (own_marks b)
      unfolding levels_of joined
      own_levels = simp map-append (ap₂ ◌++◌ (first_levels held.entries) (second_levels b.entries))

      pub own_fences : fences_of p (joined a b) (joined a b).entries ≡ fences_of p a a.entries ++ fences_of p b b.entries
      unfolding joined
      own_fences = fences_append (joined a b) a.entries (map (raised_by (length a.segments)) b.entries) ∙ ap₂ ◌++◌ (first_fences held.entries) (second_fences b.entries)
