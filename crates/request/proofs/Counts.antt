-- How many numbers pass a test, and a period's close count as such.
-- Assumes nothing.
use mathlib.Core.Path.{◌≡◌, refl, sym, ap, ◌∙◌}
use mathlib.Core.Bool.{Bool, true, false, cond, ◌&&◌}
use mathlib.Core.List.{List, [], ◌∷◌}
use Prim.Native.Nat.{ℕ, zero, suc, ◌+◌, ◌-◌, ◌<◌, ◌≤◌}
use native.Mathlib.Nat.{add-zero, add-suc}
use native.Mathlib.Omega.{arith}
use lib.ListN.{length, get_or, get_or-eq_default}
use Rattle.figures.specs.declared.Segment.{Segment}
use Rattle.figures.specs.declared.Period.{Period}
use Rattle.propagation.specs.Propagation.{propagation_of}
use Rattle.study.specs.Plan.{Plan, segment_at, no_segment}
use Rattle.study.specs.Add.{ours}
use Rattle.request.specs.Levels.{Marks, mark_at, own_marks, heard_at, close_from, close_segments}
use Rattle.request.specs.Request.{count_to}
use Rattle.request.proofs.Found.{own_mark, none_adds}

pub count_same : (f g : ℕ → Bool) (n : ℕ) → ((k : ℕ) → k < n → f k ≡ g k) → count_to f n ≡ count_to g n
unfolding count_to
count_same f g zero h = refl
count_same f g (suc n) h = rw (count_same f g n (λ k l. h k (omega arith)), h n (omega arith))

-- none passes
pub count_none : (f : ℕ → Bool) (n : ℕ) → ((k : ℕ) → f k ≡ false) → count_to f n ≡ 0
unfolding count_to
count_none f zero h = refl
count_none f (suc n) h = rw (h n, count_none f n h)

-- no more than there are
pub count_most : (f : ℕ → Bool) (n : ℕ) → count_to f n ≤ n
unfolding count_to
count_most f zero = omega arith
count_most f (suc n) = go (f n) (count_most f n)
  where
    go : (b : Bool) → count_to f n ≤ n → count_to f n + cond b 1 0 ≤ suc n
    go true h = omega arith
    go false h = omega arith

-- those below n, and those from n on
pub count_append : (f : ℕ → Bool) (n d : ℕ) → count_to f (n + d) ≡ count_to f n + count_to (λ k. f (n + k)) d
unfolding count_to
count_append f n zero = rw (add-zero n) (omega arith)
count_append f n (suc d) = rw (add-suc n d, count_append f n d) (omega arith)

-- no number from n on passes
count_past : (f : ℕ → Bool) (n d : ℕ) → ((k : ℕ) → n ≤ k → f k ≡ false) → count_to f (n + d) ≡ count_to f n
count_past f n d h = count_append f n d ∙ rw (count_none (λ k. f (n + k)) d (λ k. h (n + k) (omega arith))) (omega arith)

module _ (p : Period) (plan : Plan) (m : Marks) where
  -- the segment at a place counts
  abbrev pub counts : ℕ → Bool
  counts k = mark_at m k && heard_at p k plan.entries

  close_from_lem : (k : ℕ) (ss : List Segment) → close_from p plan m k ss + count_to counts k ≡ count_to counts (k + length ss)
  unfolding close_from count_to
  close_from_lem k [] = rw (add-zero k) (omega arith)
  close_from_lem k (s ∷ ss) =
      let e : suc k + length ss ≡ k + suc (length ss) = omega arith in
      omega (arith, close_from_lem (suc k) ss, ap (count_to counts) e)

  pub close_is : close_segments p plan m ≡ count_to counts (length plan.segments)
  unfolding close_segments count_to
  close_is =
      let e : 0 + length plan.segments ≡ length plan.segments = omega arith in
      omega (arith, close_from_lem 0 plan.segments, ap (count_to counts) e)

  pub close_most : close_segments p plan m ≤ length plan.segments
  close_most = omega (arith, close_is, count_most counts (length plan.segments))

-- the program's own marks are those of the segments
pub own_marks_lem : (plan : Plan) (k : ℕ) → mark_at (own_marks plan) k ≡ (propagation_of (segment_at plan k)).close
unfolding own_marks
own_marks_lem plan k = own_mark plan k

-- the close count by what was found of the segments, and which are heard
pub close_found : (p : Period) (plan : Plan) (close : List Bool) (heard : ℕ → Bool) → length plan.segments ≤ ours.segments → ((k : ℕ) → get_or close k false ≡ (propagation_of (segment_at plan k)).close)
    → ((k : ℕ) → heard k ≡ heard_at p k plan.entries)
    → count_to (λ k. get_or close k false && heard k) ours.segments ≡ close_segments p plan (own_marks plan)
close_found p plan close heard few all sounds =
    count_same (λ k. get_or close k false && heard k) (counts p plan (own_marks plan)) ours.segments same
    ∙ ap (count_to (counts p plan (own_marks plan))) split
    ∙ count_past (counts p plan (own_marks plan)) (length plan.segments) (ours.segments - length plan.segments) past
    ∙ sym (close_is p plan (own_marks plan))
  where
    split : ours.segments ≡ length plan.segments + (ours.segments - length plan.segments)
    split = omega arith

    same : (k : ℕ) → k < ours.segments → (get_or close k false && heard k) ≡ counts p plan (own_marks plan) k
    same k h = rw (sounds k, own_marks_lem plan k, all k)

    past : (k : ℕ) → length plan.segments ≤ k → counts p plan (own_marks plan) k ≡ false
    past k h = rw (own_marks_lem plan k, get_or-eq_default plan.segments no_segment h, none_adds)
