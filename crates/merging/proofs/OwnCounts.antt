-- In joined lists each segment is heard by its own entries, so that the close segments of both add up.
-- Assumes nothing.
use mathlib.Core.Path.{◌≡◌, refl, sym, ap, ap₂, ◌∙◌}
use mathlib.Core.Bool.{Bool, true, false, ◌&&◌, ◌||◌, or-false, or_assoc}
use mathlib.Core.List.{List, [], ◌∷◌, ◌++◌, map}
use Prim.Native.Nat.{ℕ, ◌+◌, ◌<◌}
use native.Mathlib.Omega.{arith}
use borrow.Author.Tests.{eqb-true, eqb-false, eq-eqb, ne_eqb}
use lib.Dec.{eqb}
use lib.ListN.{length}
use Rattle.figures.specs.declared.Segment.{Segment}
use Rattle.figures.specs.declared.Period.{Period}
use Rattle.propagation.specs.Propagation.{propagation_of}
use Rattle.emission.specs.Emission.{emission_of}
use Rattle.study.specs.declared.Entry.{Entry}
use Rattle.study.specs.Plan.{Plan}
use Rattle.study.specs.Add.{Limits}
use Rattle.study.proofs.Plans.{Each, none, next, EntryHeld, PlanHeld}
use Rattle.request.specs.Levels.{own_marks, is_heard, heard_at, close_segments}
use Rattle.request.specs.Request.{count_to}
use Rattle.request.proofs.Counts.{count_same, count_append, counts, close_is, own_marks_lem}
use Rattle.merging.specs.Joined.{raised_by, joined}
use Rattle.merging.proofs.Joining.{joined_count}
use Rattle.merging.proofs.OwnLevels.{first_place, second_place}

raised_place : (n s k : ℕ) → eqb (n + s) (n + k) ≡ eqb s k
raised_place n s k = go (eqb s k) refl
  where
    go : (t : Bool) → eqb s k ≡ t → eqb (n + s) (n + k) ≡ t
    go true e = eq-eqb (n + s) (n + k) (ap (λ (j : ℕ). n + j) (eqb-true s k e))
    go false e = ne_eqb (n + s) (n + k) (λ z. eqb-false s k e (omega arith))

-- ---- by which entries a segment is heard

module _ (p : Period) where
  heard-append : (k : ℕ) (es fs : List Entry) → heard_at p k (es ++ fs) ≡ (heard_at p k es || heard_at p k fs)
  unfolding heard_at
  heard-append k [] fs = refl
  heard-append k (e ∷ es) fs = rw (heard-append k es fs) (sym (or_assoc (eqb e.segment k && is_heard (emission_of p e.train)) (heard_at p k es) (heard_at p k fs)))

  -- a segment of the second list by none of the first
  first_silent : {ss : List Segment} (k : ℕ) {es : List Entry} → Each (EntryHeld ss) es → heard_at p (length ss + k) es ≡ false
  unfolding heard_at
  first_silent k none = refl
  first_silent {ss} k (next {x = e} held rest) = rw (ne_eqb e.segment (length ss + k) (λ z. omega (arith, held.segment)), first_silent k rest) refl

  -- a segment of the first by none of the second
  second_silent : (n k : ℕ) → k < n → (es : List Entry) → heard_at p k (map (raised_by n) es) ≡ false
  unfolding heard_at raised_by
  second_silent n k h [] = refl
  second_silent n k h (e ∷ es) = rw (ne_eqb (n + e.segment) k (λ z. omega arith), second_silent n k h es) refl

  second_heard : (n k : ℕ) (es : List Entry) → heard_at p (n + k) (map (raised_by n) es) ≡ heard_at p k es
  unfolding heard_at raised_by
  second_heard n k [] = refl
  second_heard n k (e ∷ es) = rw (raised_place n e.segment k, second_heard n k es) refl

  -- ---- the close segments

  module _ (a b : Plan) {l : Limits} (held : PlanHeld l a) where
    abbrev both : Plan
    both = joined a b

    first_counts : (k : ℕ) → k < length a.segments → counts p both (own_marks both) k ≡ counts p a (own_marks a) k
    unfolding joined
    first_counts k h =
        ap₂ ◌&&◌ (own_marks_lem both k ∙ ap (λ (s : Segment). (propagation_of s).close) (first_place a b k h) ∙ sym (own_marks_lem a k))
        (heard-append k a.entries (map (raised_by (length a.segments)) b.entries) ∙ rw (second_silent (length a.segments) k h b.entries) (or-false _))

    second_counts : (k : ℕ) → counts p both (own_marks both) (length a.segments + k) ≡ counts p b (own_marks b) k
    unfolding joined
    second_counts k =
        let n = length a.segments in
        ap₂ ◌&&◌ (own_marks_lem both (n + k) ∙ ap (λ (s : Segment). (propagation_of s).close) (second_place a b k) ∙ sym (own_marks_lem b k))
        (heard-append (n + k) a.entries (map (raised_by n) b.entries) ∙ rw (first_silent k held.entries, second_heard n k b.entries) refl)

    pub own_close : close_segments p both (own_marks both) ≡ close_segments p a (own_marks a) + close_segments p b (own_marks b)
    own_close =
        let n = length a.segments in
        close_is p both (own_marks both)
        ∙ ap (count_to (counts p both (own_marks both))) (joined_count a b)
        ∙ count_append (counts p both (own_marks both)) n (length b.segments)
        ∙ ap₂ ◌+◌ (count_same (counts p both (own_marks both)) (counts p a (own_marks a)) n first_counts ∙ sym (close_is p a (own_marks a)))
        (count_same (λ k. counts p both (own_marks both) (n + k)) (counts p b (own_marks b)) (length b.segments) (λ k h. second_counts k) ∙ sym (close_is p b (own_marks b)))
