-- An addition's check, the study that it answers, and a segment's judgement.
-- Assumes nothing.
use mathlib.Core.Path.{◌≡◌, refl, ◌∙◌, ap}
use mathlib.Core.Bool.{Bool, true, false, not}
use Prim.Native.Nat.{ℕ, ◌≤◌, ◌<◌}
use borrow.Author.Tests.{le-leb, lt-leb, eq-eqb, ne_eqb, leb-false, eqb-false}
use lib.Dec.{leb, eqb}
use Rattle.figures.specs.declared.Segment.{Segment}
use Rattle.figures.specs.declared.Train.{Train}
use Rattle.figures.specs.declared.Refusal.{Refusal}
use Rattle.figures.specs.declared.Refusal.TheVariants.{NoSegment, SegmentLimit, EntryLimit}
use Rattle.figures.specs.Refusal.{number_of, check_number, unless, first_refused, check_of, Check}
use Rattle.figures.specs.Rules.{train_check}
use Rattle.figures.proofs.Numbers.{state_number, train_number_lem, check_of-answered}
use Rattle.propagation.specs.declared.Propagation.{Propagation}
use Rattle.propagation.specs.Check.{segment_check}
use Rattle.propagation.specs.Propagation.{propagation_of}
use Rattle.propagation.proofs.Chain.{segment_number_lem}
use Rattle.study.specs.Plan.{Plan}
use Rattle.study.specs.Add.{Limits, segment_limit, segment_answer, segment_number, segment_judgement, train_limit, train_answer, train_number, answer}
use Rattle.std.specs.Prelude.{Result, Ok, Err}

-- ---- the answer by its check

-- its check, and its study where it refuses
pub answer_check : (check : Check) (old new : Plan) → (answer check old new).check ≡ check
unfolding answer
answer_check (Ok _) old new = refl
answer_check (Err r) old new = refl

pub refused_study : {check : Check} (old new : Plan) {r : Refusal} → check ≡ Err r → (answer check old new).study ≡ old
unfolding answer
refused_study old new q = rw q

-- ---- one line of a check: kept where nothing is refused, and the later ones with it

kept_first : (b : Bool) (r : Refusal) (rest : Check) → unless (not b) r rest ≡ Ok tt → b ≡ false
unfolding unless
kept_first true r rest e = cc
kept_first false r rest e = refl

kept_rest : (b : Bool) (r : Refusal) (rest : Check) → unless (not b) r rest ≡ Ok tt → rest ≡ Ok tt
unfolding unless
kept_rest true r rest e = cc
kept_rest false r rest e = e

-- both of two checks accept where the first refusal of them is none
pub both_accept : (first second : Check) → first_refused first second ≡ Ok tt → (first ≡ Ok tt) × (second ≡ Ok tt)
unfolding first_refused
both_accept (Ok _) second e = (refl, e)
both_accept (Err r) second e = (e, cc)

-- ---- a segment: 21, then its own lines

module _ (l : Limits) (count : ℕ) where
  pub segments_full : l.segments ≤ count → segment_limit l count ≡ Err SegmentLimit
  unfolding segment_limit unless
  segments_full h = simp (le-leb l.segments count h)

  pub segments_room : count < l.segments → segment_limit l count ≡ Ok tt
  unfolding segment_limit unless
  segments_room h = simp (lt-leb l.segments count h)

  pub segments_below : segment_limit l count ≡ Ok tt → count < l.segments
  unfolding segment_limit
  segments_below e = leb-false l.segments count (kept_first (leb l.segments count) SegmentLimit (Ok tt) e)

module _ (l : Limits) (count : ℕ) (s : Segment) where
  pub record SegmentTaken : Type 0 where
    pub room : count < l.segments
    pub kept : segment_check s ≡ Ok tt

  pub segment_taken : segment_answer l count s ≡ Ok tt → SegmentTaken
  unfolding segment_answer
  segment_taken e =
      let both = both_accept (segment_limit l count) (segment_check s) e in
      record { room = segments_below l count both.0; kept = both.1 }

-- ---- a train: 20, then 22, then its own lines

module _ (l : Limits) (count total : ℕ) where
  pub no_segment_lem : count ≡ 0 → train_limit l count total ≡ Err NoSegment
  unfolding train_limit unless
  no_segment_lem e = simp (eq-eqb count 0 e)

  pub entries_full : (count ≡ 0 → ⊥) → l.entries ≤ total → train_limit l count total ≡ Err EntryLimit
  unfolding train_limit unless
  entries_full some h = simp (ne_eqb count 0 some, le-leb l.entries total h)

  pub entries_room : (count ≡ 0 → ⊥) → total < l.entries → train_limit l count total ≡ Ok tt
  unfolding train_limit unless
  entries_room some h = simp (ne_eqb count 0 some, lt-leb l.entries total h)

module _ (l : Limits) (count total : ℕ) (t : Train) where
  pub record TrainTaken : Type 0 where
    pub some : count ≡ 0 → ⊥
    pub room : total < l.entries
    pub kept : train_check t ≡ Ok tt

  pub train_taken : train_answer l count total t ≡ Ok tt → TrainTaken
  unfolding train_answer train_limit
  train_taken e =
      let both = both_accept (train_limit l count total) (train_check t) e in
      let rest = kept_rest (eqb count 0) NoSegment _ both.0 in
      record {
        some = eqb-false count 0 (kept_first (eqb count 0) NoSegment _ both.0);
        room = leb-false l.entries total (kept_first (leb l.entries total) EntryLimit (Ok tt) rest);
        kept = both.1;
      }

-- ---- an answer, and its number

module _ (l : Limits) (count : ℕ) (s : Segment) where
  segment_answer_number : check_number (segment_answer l count s) ≡ segment_number l count s
  unfolding segment_answer segment_limit segment_number first_refused number_of
  segment_answer_number = simp (state_number, segment_number_lem)

  pub segment_answered : {r : Check} → r ≡ segment_answer l count s → check_number r ≡ segment_number l count s
  segment_answered e = ap check_number e ∙ segment_answer_number

  pub judgement_number : {r : Result Propagation Refusal} → r ≡ segment_judgement l count s → check_number (check_of r) ≡ segment_number l count s
  unfolding segment_judgement
  judgement_number e = ap (λ (r : Result Propagation Refusal). check_number (check_of r)) e ∙ ap check_number (check_of-answered (segment_answer l count s) (propagation_of s)) ∙ segment_answer_number

module _ (l : Limits) (count total : ℕ) (t : Train) where
  train_answer_number : check_number (train_answer l count total t) ≡ train_number l count total t
  unfolding train_answer train_limit train_number first_refused number_of
  train_answer_number = simp (state_number, train_number_lem)

  pub train_answered : {r : Check} → r ≡ train_answer l count total t → check_number r ≡ train_number l count total t
  train_answered e = ap check_number e ∙ train_answer_number
