-- What the next line adds: a segment's, and a train's.
-- Assumes nothing.
use Rattle.std.proofs.Common.{◌≡◌, ℕ, List, Option, None, Some, sym, refl, ◌∙◌, Result, Ok, Err, arith}
use Rattle.std.specs.Option.{ok_or}
use Rattle.figures.specs.declared.Segment.{Segment}
use Rattle.figures.specs.declared.Train.{Train}
use Rattle.figures.specs.declared.Refusal.{Refusal}
use Rattle.figures.specs.declared.Refusal.TheVariants as R
use Rattle.figures.specs.Refusal.{Check, answered}
use Rattle.propagation.specs.declared.Propagation.{Propagation}
use Rattle.propagation.specs.Propagation.{propagation_of}
use Rattle.study.specs.Plan.{Plan}
use Rattle.study.specs.Add.{ours, segment_answer, segment_judgement, train_answer, Added, added, answer, add_segment, add_train}
use Rattle.lines.specs.Lines.{segment_of, train_of}
use Rattle.text.specs.Text.{ended, Kind, segment_kind, train_kind, add_line}
use Rattle.text.specs.Private.{NextLine, Took, LineRefused, first_adds, SegmentTaken, SegmentFault, TrainTaken, TrainFault}

-- what `ok_or` finds is there
pub found : {A : Type 0} (o : Option A) {all : Option A} {r : Result A Refusal} {x : A} → r ≡ ok_or o R.Form → r ≡ Ok x → o ≡ all → Some x ≡ all
found None e f g = let z : ◌≡◌ {A = ℕ} 0 1 = cc in absurd (omega arith)
found (Some y) e f g = cc

module _ {text line rest : List ℕ} (n : NextLine text line rest) where
  -- what the line adds is what the next line adds
  turned : (kind : Kind) (st : Plan) {f : Refusal} → (add_line ours kind st (ended line)).check ≡ Err f → LineRefused kind st text f
  unfolding first_adds
  turned kind st e = rw n.is e

  took : (kind : Kind) (st : Plan) {a : Added} → add_line ours kind st (ended line) ≡ a → a.check ≡ Ok tt → Took kind st text rest a.study
  took kind st e c = record { line = ended line; accepted = rw e c; is = rw e; ahead = n.ahead; lines = n.is }

  -- ---- a segment's line

  pub segment_malformed : None ≡ segment_of line → (st : Plan) → LineRefused segment_kind st text R.Form
  unfolding add_line
  segment_malformed e st = turned segment_kind st (rw (← e))

  module _ {s : Segment} (e : Some s ≡ segment_of line) where
    segment_adds : (st : Plan) → add_line ours segment_kind st (ended line) ≡ add_segment ours st s
    unfolding add_line
    segment_adds st = rw (← e)

    module _ (st : Plan) {check : Check} {new : Plan} (q : added check new ≡ add_segment ours st s) where
      pub segment_added : check ≡ Ok tt → Took segment_kind st text rest new
      segment_added c = took segment_kind st (segment_adds st ∙ sym q) c

      pub segment_turned : {f : Refusal} → check ≡ Err f → LineRefused segment_kind st text f
      segment_turned c = turned segment_kind st (rw (segment_adds st, ← q) c)

    module _ (count : ℕ) where
      pub judged_segment : {p : Propagation} → Ok p ≡ segment_judgement ours count s → SegmentTaken count text p rest
      unfolding segment_judgement add_segment answer answered
      judged_segment {p} q = go (segment_answer ours count s) refl q
        where
          go : (c : Check) → segment_answer ours count s ≡ c → Ok p ≡ answered c (propagation_of s) → SegmentTaken count text p rest
          go (Ok _) ok e = record { segment = s; adds = cc; took = λ st h. took segment_kind st (segment_adds st ∙ rw (h, ok) refl) refl }
          go (Err r) bad e = let z : ◌≡◌ {A = ℕ} 0 1 = cc in absurd (omega arith)

      pub judged_fault : {f : Refusal} → Err f ≡ segment_judgement ours count s → SegmentFault count text f
      unfolding segment_judgement add_segment answer answered
      judged_fault {f} q = go (segment_answer ours count s) refl q
        where
          go : (c : Check) → segment_answer ours count s ≡ c → Err f ≡ answered c (propagation_of s) → SegmentFault count text f
          go (Ok _) ok e = let z : ◌≡◌ {A = ℕ} 0 1 = cc in absurd (omega arith)
          go (Err r) bad e = λ st h. turned segment_kind st (rw (segment_adds st, h, bad) (let same : r ≡ f = cc in rw same refl))

  -- ---- a train line, likewise

  pub train_malformed : None ≡ train_of line → (st : Plan) → LineRefused train_kind st text R.Form
  unfolding add_line
  train_malformed e st = turned train_kind st (rw (← e))

  module _ {t : Train} (e : Some t ≡ train_of line) where
    train_adds : (st : Plan) → add_line ours train_kind st (ended line) ≡ add_train ours st t
    unfolding add_line
    train_adds st = rw (← e)

    module _ (st : Plan) {check : Check} {new : Plan} (q : added check new ≡ add_train ours st t) where
      pub train_added : check ≡ Ok tt → Took train_kind st text rest new
      train_added c = took train_kind st (train_adds st ∙ sym q) c

      pub train_turned : {f : Refusal} → check ≡ Err f → LineRefused train_kind st text f
      train_turned c = turned train_kind st (rw (train_adds st, ← q) c)

    module _ {count total : ℕ} where
      pub answered_train : train_answer ours count total t ≡ Ok tt → TrainTaken count total text t rest
      unfolding add_train answer
      answered_train c = record { took = λ st h k. took train_kind st (train_adds st ∙ rw (h, k, c) refl) refl }

      pub answered_fault : {f : Refusal} → train_answer ours count total t ≡ Err f → TrainFault count total text f
      unfolding add_train answer
      answered_fault c st h k = turned train_kind st (rw (train_adds st, h, k, c))
