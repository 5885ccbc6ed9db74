-- What was worked out of the lines so far: what each segment adds, and the entries.
-- Assumes nothing.
use mathlib.Core.Path.{◌≡◌, refl, sym, ap₂, ◌∙◌}
use mathlib.Core.List.{List, [], ◌∷◌, ◌++◌, map-append}
use Prim.Native.Nat.{ℕ, ◌+◌, ◌-◌, ◌≤◌}
use native.Mathlib.Omega.{arith}
use lib.ListN.{length, length-append}
use Rattle.figures.specs.declared.Segment.{Segment}
use Rattle.figures.specs.declared.Train.{Train}
use Rattle.propagation.specs.declared.Propagation.{Propagation}
use Rattle.propagation.specs.Propagation.{propagation_of}
use Rattle.study.specs.declared.Entry.{Entry}
use Rattle.study.specs.Plan.{Plan, empty_plan}
use Rattle.study.specs.Add.{ours, with_segment, with_train}
use Rattle.request.proofs.Answers.{added_of}

-- so much of a study: n segments, what they add, and its entries
pub record WorkedTo (st : Plan) (n : ℕ) (added : List Propagation) (entries : List Entry) : Type 0 where
  pub count : length st.segments ≡ n
  pub adds : added ≡ added_of st
  pub rows : entries ≡ st.entries
  pub few : n ≤ ours.segments
  pub held : length entries ≤ ours.entries

pub worked_none : {added : List Propagation} {entries : List Entry} → added ≡ [] → entries ≡ [] → WorkedTo empty_plan 0 added entries
worked_none e f = rw (e, f) (record { count = refl; adds = refl; rows = refl; few = omega arith; held = omega arith })

module _ {st : Plan} {n : ℕ} {added : List Propagation} {entries : List Entry} (w : WorkedTo st n added entries) where
  -- a segment more
  pub worked_segment : n + 1 ≤ ours.segments → (s : Segment) {p : Propagation} → p ≡ propagation_of s → WorkedTo (with_segment st s) (n + 1) (added ++ (p ∷ [])) entries
  worked_segment h s e =
      record {
        count = omega (arith, length-append st.segments (s ∷ []), w.count);
        adds = ap₂ (λ (xs : List Propagation) (x : Propagation). xs ++ (x ∷ [])) w.adds e ∙ sym (map-append propagation_of st.segments (s ∷ []));
        rows = w.rows;
        few = h;
        held = w.held;
      }

  -- a train more, at the last segment
  pub worked_train : length entries + 1 ≤ ours.entries → (k : ℕ) → n ≡ k + 1 → (t : Train) → WorkedTo (with_train st t) n added (entries ++ (record { segment = k; train = t } ∷ []))
  worked_train h k e t =
      let here : k ≡ length st.segments - 1 = omega (arith, w.count) in
      record {
        count = w.count;
        adds = w.adds;
        rows = ap₂ (λ (xs : List Entry) (j : ℕ). xs ++ (record { segment = j; train = t } ∷ [])) w.rows here;
        few = w.few;
        held = omega (arith, length-append {A = Entry} entries (record { segment = k; train = t } ∷ []));
      }
