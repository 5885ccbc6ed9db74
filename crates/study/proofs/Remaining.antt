-- The additions of a plan one after another: what is still to be added at a segment's place, and at an entry's.
-- Assumes nothing.
use mathlib.Core.Path.{◌≡◌, refl, ◌∙◌, subst, ap}
use mathlib.Core.List.{List, ◌++◌}
use Prim.Native.Nat.{ℕ, ◌+◌, ◌<◌, ◌≤◌}
use native.Mathlib.Numerals.{add-one}
use borrow.Author.Tests.{eq-eqb, ne_eqb}
use lib.ListN.{length, get_or, drop, drop_of_length-le}
use lib.Seq.{drop-cons}
use Rattle.figures.specs.declared.Segment.{Segment}
use Rattle.std.proofs.lemmas.List.{get_or_default}
use Rattle.figures.specs.Refusal.{Check}
use Rattle.study.specs.declared.Entry.{Entry}
use Rattle.study.specs.Plan.{Plan, segment_at, no_segment, no_entry}
use Rattle.study.specs.Add.{ours, add_segment, add_train, Added, added}
use Rattle.study.specs.Run.{Addition, step, run_from, trains_of, listed_from, listed}

-- what a loop over a list's elements reads at a place is what stands there
pub read_there : {X : Type 0} {xs ys : List X} {k : ℕ} (d e : X) → xs ≡ ys → k < length xs → get_or ys k e ≡ get_or xs k d
read_there {xs = xs} {k = k} d e s h = subst (λ zs. get_or zs k e ≡ get_or xs k d) s (get_or_default xs k e d h)

module _ (p : Plan) (start : Plan) where
  -- the segments from place k on are to be added, each with its trains
  pub record AtSegment (k : ℕ) (st : Plan) : Type 0 where
    pub rest : run_from ours st (listed_from k (drop k p.segments) p.entries) ≡ run_from ours start (listed p)

  pub at_first : AtSegment 0 start
  unfolding listed
  at_first = record { rest = refl }

  pub at_last : {k : ℕ} {st : Plan} → length p.segments ≤ k → AtSegment k st → st ≡ run_from ours start (listed p)
  unfolding listed_from run_from
  at_last h a = rw (drop_of_length-le p.segments h) at a.rest

module _ (p : Plan) where
  -- what comes after segment k and its trains
  abbrev after : ℕ → List Addition
  after k = listed_from (k + 1) (drop (k + 1) p.segments) p.entries

  -- from a study with segment k, tried: its trains among the entries from i on are to be added, then the segments after it
  pub record AtEntry (tried : Plan) (k i : ℕ) (st : Plan) : Type 0 where
    pub rest : run_from ours st (trains_of k (drop i p.entries) ++ after k) ≡ run_from ours tried (trains_of k p.entries ++ after k)

  -- ---- an entry: of another segment, or its train added or refused

  module _ {k i : ℕ} {tried st : Plan} {e : Entry} (h : i < length p.entries) (a : AtEntry tried k i st) (same : get_or p.entries i no_entry ≡ e) where
    pub entry_passed : (e.segment ≡ k → ⊥) → AtEntry tried k (i + 1) st
    unfolding trains_of
    entry_passed w = record { rest = rw (add-one i) (rw (drop-cons p.entries i no_entry h, same, ne_eqb e.segment k w) at a.rest) }

    pub train_tried : {check : Check} {new : Plan} → e.segment ≡ k → added check new ≡ add_train ours st e.train → AtEntry tried k (i + 1) new
    unfolding trains_of run_from step
    train_tried w f = record { rest = rw (ap (λ (a : Added). a.study) f, add-one i) (rw (drop-cons p.entries i no_entry h, same, eq-eqb e.segment k w) at a.rest) }

  -- ---- a segment, added or refused, and its trains

  pub segment_tried : {start st tried new : Plan} {k i : ℕ} {s : Segment} {check : Check} → k < length p.segments → AtSegment p start k st → segment_at p k ≡ s
      → added check tried ≡ add_segment ours st s
      → length p.entries ≤ i
      → AtEntry tried k i new
      → AtSegment p start (k + 1) new
  unfolding listed_from run_from step trains_of
  segment_tried {start} {st} {new} {k} h a same e l b =
      let rest = rw (drop-cons p.segments k no_segment h, same, add-one) at a.rest in
      record { rest = rw (drop_of_length-le p.entries l, ap (λ (a : Added). a.study) e) at b.rest ∙ rw add-one rest }
