-- The additions to a study: what each answers, for every study and every figure (01, "Turned back").
-- Assumes nothing.
use Rattle.std.specs.Prelude.{not, cond, [], ◌∷◌, ◌++◌, ℕ, ◌-◌, leb, eqb, length, Result, Ok, Err, IfOk}
use Rattle.figures.specs.declared.Segment.{Segment}
use Rattle.figures.specs.declared.Train.{Train}
use Rattle.figures.specs.declared.Refusal.{Refusal}
use Rattle.figures.specs.declared.Refusal.TheVariants.{NoSegment, SegmentLimit, EntryLimit}
use Rattle.figures.specs.Refusal.{Check, unless, first_refused, answered}
use Rattle.figures.specs.Rules.{train_check, lowest_number, train_lines}
use Rattle.propagation.specs.declared.Propagation.{Propagation}
use Rattle.propagation.specs.Check.{segment_check, segment_lines}
use Rattle.propagation.specs.Ground.{SegmentMark}
use Rattle.propagation.specs.Propagation.{propagation_of}
use Rattle.study.specs.Plan.{Plan}

-- how many segments and entries a study may hold
pub record Limits : Type 0 where
  pub segments : ℕ
  pub entries : ℕ

abbrev pub ours : Limits
ours = record { segments = 24; entries = 96 }

-- 21: with so many segments held, none may be added
unfoldable pub segment_limit : Limits → ℕ → Check
segment_limit l count = unless (not (leb l.segments count)) SegmentLimit (Ok tt)

-- "These come first": the state's refusal, then the segment's own lines
unfoldable pub segment_answer : Limits → ℕ → Segment → Check
segment_answer l count s = first_refused (segment_limit l count) (segment_check s)

-- its number: 21 at the limit, else the lowest that applies
unfoldable pub segment_number : Limits → ℕ → Segment → ℕ
segment_number l count s = cond (leb l.segments count) 21 (lowest_number (segment_lines s))

-- what the segment adds where it is accepted, else that refusal
unfoldable pub segment_judgement : Limits → ℕ → Segment → Result Propagation Refusal
segment_judgement l count s = answered (segment_answer l count s) (propagation_of s)

-- 01 allows the mark of what it adds
abbrev pub SegmentMarked : Segment → Result Propagation Refusal → Type 0
SegmentMarked s r = IfOk r (λ (added : Propagation). SegmentMark s added.close)

-- 20 without a segment, then 22: with so many entries held, none may be added
unfoldable pub train_limit : Limits → ℕ → ℕ → Check
train_limit l count total = unless (not (eqb count 0)) NoSegment (unless (not (leb l.entries total)) EntryLimit (Ok tt))

-- likewise, then the train's own lines
unfoldable pub train_answer : Limits → ℕ → ℕ → Train → Check
train_answer l count total t = first_refused (train_limit l count total) (train_check t)

-- its number: 20 without a segment, 22 at the limit, else the lowest that applies
unfoldable pub train_number : Limits → ℕ → ℕ → Train → ℕ
train_number l count total t = cond (eqb count 0) 20 (cond (leb l.entries total) 22 (lowest_number (train_lines t)))

-- the plan with the segment after its last
abbrev pub with_segment : Plan → Segment → Plan
with_segment p s = record { segments = p.segments ++ (s ∷ []); entries = p.entries }

-- the plan with the train after its last entry, at its last segment
abbrev pub with_train : Plan → Train → Plan
with_train p t = record { segments = p.segments; entries = p.entries ++ (record { segment = length p.segments - 1; train = t } ∷ []) }

-- what an addition answers, and the study then
pub record Added : Type 0 where
  pub check : Check
  pub study : Plan

abbrev pub added : Check → Plan → Added
added check study = record { check = check; study = study }

-- a refusal with the study as it was, or the new study
unfoldable pub answer : Check → Plan → Plan → Added
answer (Ok _) old new = added (Ok tt) new
answer (Err r) old new = added (Err r) old

unfoldable pub add_segment : Limits → Plan → Segment → Added
add_segment l p s = answer (segment_answer l (length p.segments) s) p (with_segment p s)

unfoldable pub add_train : Limits → Plan → Train → Added
add_train l p t = answer (train_answer l (length p.segments) (length p.entries) t) p (with_train p t)
