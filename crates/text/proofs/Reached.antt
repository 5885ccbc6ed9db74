-- A place in the working out of a text's lines: what is left gives the whole answer, and the arrays hold what was worked out.
-- Assumes nothing.
use mathlib.Core.Path.{◌≡◌, sym, ap, ◌∙◌}
use mathlib.Core.List.{List, [], ◌∷◌, ◌++◌}
use native.Mathlib.Omega.{arith}
use Prim.Native.Nat.{ℕ, ◌+◌, ◌<◌}
use lib.ListN.{length, length-map}
use Rattle.figures.specs.declared.Train.{Train}
use Rattle.figures.specs.declared.Refusal.{Refusal}
use Rattle.figures.proofs.Kept.{refused_not}
use Rattle.propagation.specs.declared.Propagation.{Propagation}
use Rattle.propagation.specs.Propagation.{propagation_of}
use Rattle.study.specs.declared.Entry.{Entry}
use Rattle.study.specs.Plan.{Plan}
use Rattle.study.specs.Add.{ours, segment_answer, train_answer, with_segment, with_train, add_segment, add_train}
use Rattle.study.proofs.Additions.{answer_check, segment_taken, train_taken}
use Rattle.figures.specs.declared.Segment.{Segment}
use Rattle.std.specs.Prelude.{Option, None, Some, Ok}
use Rattle.lines.specs.Lines.{segment_of, train_of}
use Rattle.text.specs.Text.{Line, ended, unended, Kind, segment_kind, train_kind, segment_adds, train_adds, add_line, refused_at}
use Rattle.text.specs.Private.{body_reading, SegmentTaken, SegmentFault, TrainTaken, TrainFault}
use Rattle.text.proofs.Rest.{Rest, rest_next, rest_refused}
use Rattle.text.proofs.Worked.{WorkedTo, worked_segment, worked_train}

-- ---- what was accepted has a place in its array

segment_room : (st : Plan) (line : Line) → (add_line ours segment_kind st line).check ≡ Ok tt → length st.segments < ours.segments
unfolding add_line add_segment
segment_room st unended e = refused_not e
segment_room st (ended line) e = go (segment_of line) e
  where
    go : (r : Option Segment) → (segment_adds ours st r).check ≡ Ok tt → length st.segments < ours.segments
    go None q = refused_not q
    go (Some s) q = (segment_taken ours (length st.segments) s (sym (answer_check (segment_answer ours (length st.segments) s) st (with_segment st s)) ∙ q)).room

train_room : (st : Plan) (line : Line) → (add_line ours train_kind st line).check ≡ Ok tt → length st.entries < ours.entries
unfolding add_line add_train
train_room st unended e = refused_not e
train_room st (ended line) e = go (train_of line) e
  where
    go : (r : Option Train) → (train_adds ours st r).check ≡ Ok tt → length st.entries < ours.entries
    go None q = refused_not q
    go (Some t) q = (train_taken ours (length st.segments) (length st.entries) t (sym (answer_check (train_answer ours (length st.segments) (length st.entries) t) st (with_train st t)) ∙ q)).room

-- ---- the place, after n segments

pub record Reached (text counts : List ℕ) (added : List Propagation) (entries : List Entry) (n : ℕ) (rest : List ℕ) (k : ℕ) (ps : List Kind) : Type 0 where
  pub study : Plan
  pub left : Rest text counts study rest k ps
  pub worked : WorkedTo study n added entries

module _ {text counts : List ℕ} {added : List Propagation} {entries : List Entry} {n : ℕ} {rest : List ℕ} {k : ℕ} {ps : List Kind} where
  -- another list of kinds that is the same
  pub reached_as : {qs : List Kind} → ((st : Plan) → Rest text counts st rest k ps → Rest text counts st rest k qs) → Reached text counts added entries n rest k ps → Reached text counts added entries n rest k qs
  reached_as f r = record { study = r.study; left = f r.study r.left; worked = r.worked }

  -- a segment's line
  module _ (r : Reached text counts added entries n rest k (segment_kind ∷ ps)) where
    module _ {p : Propagation} {next : List ℕ} (w : SegmentTaken n rest p next) where
      segment_place : n < ours.segments
      segment_place =
          let took = w.took r.study r.worked.count in
          rw r.worked.count at (segment_room r.study took.line took.accepted)

      pub added_room : length added < ours.segments
      added_room = omega (arith, segment_place, r.worked.count, ap length r.worked.adds, length-map r.study.segments propagation_of)

      pub reached_segment : Reached text counts (added ++ (p ∷ [])) entries (n + 1) next (k + 1) ps
      reached_segment =
          record {
            study = with_segment r.study w.segment;
            left = rest_next r.left (w.took r.study r.worked.count);
            worked = worked_segment r.worked (omega (arith, segment_place)) w.segment w.adds;
          }

    pub segment_at_fault : {f : Refusal} → SegmentFault n rest f → body_reading counts text ≡ refused_at f k
    segment_at_fault w = rest_refused r.left (w r.study r.worked.count)

  -- a train line
  module _ (r : Reached text counts added entries n rest k (train_kind ∷ ps)) {t : ℕ} (size : t ≡ length entries) where
    total : length r.study.entries ≡ t
    total = sym (size ∙ ap length r.worked.rows)

    module _ {x : Train} {next : List ℕ} (w : TrainTaken n t rest x next) where
      pub train_place : length entries < ours.entries
      train_place =
          let took = w.took r.study r.worked.count total in
          let room = train_room r.study took.line took.accepted in
          omega (arith, room, total, size)

      pub reached_train : (j : ℕ) → n ≡ j + 1 → Reached text counts added (entries ++ (record { segment = j; train = x } ∷ [])) n next (k + 1) ps
      reached_train j h =
          record {
            study = with_train r.study x;
            left = rest_next r.left (w.took r.study r.worked.count total);
            worked = worked_train r.worked (omega (arith, train_place)) j h x;
          }

    pub train_at_fault : {f : Refusal} → TrainFault n t rest f → body_reading counts text ≡ refused_at f k
    train_at_fault w = rest_refused r.left (w r.study r.worked.count total)
