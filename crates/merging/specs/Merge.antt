-- Two studies in one (02, L5): what is turned back, and the study that is made of both.
-- Assumes nothing.
use Rattle.std.specs.Prelude.{[], ◌∷◌, ℕ, ◌+◌, leb, length, Result, Ok}
use Rattle.figures.specs.declared.Refusal.{Refusal}
use Rattle.figures.specs.declared.Refusal.TheVariants.{SegmentLimit, EntryLimit}
use Rattle.figures.specs.Refusal.{unless, answered, Check}
use Rattle.figures.specs.Rules.{lowest_number}
use Rattle.study.specs.Plan.{Plan}
use Rattle.study.specs.Add.{Limits, Added, answer}
use Rattle.study.specs.Run.{run_from, listed}

-- "more than 24 segments together is 21; then more than 96 entries is 22"
unfoldable pub limits_check : Limits → ℕ → ℕ → Check
limits_check l segments entries = unless (leb segments l.segments) SegmentLimit (unless (leb entries l.entries) EntryLimit (Ok tt))

unfoldable pub merge_check : Limits → Plan → Plan → Check
merge_check l p q = limits_check l (length p.segments + length q.segments) (length p.entries + length q.entries)

-- the same by 01's numbers
unfoldable pub limits_number : Limits → ℕ → ℕ → ℕ
limits_number l segments entries = lowest_number ((21, leb segments l.segments) ∷ (22, leb entries l.entries) ∷ [])

unfoldable pub merge_number : Limits → Plan → Plan → ℕ
merge_number l p q = limits_number l (length p.segments + length q.segments) (length p.entries + length q.entries)

-- what the second study lists, each segment and after it its trains, is added to the first, as typed after it; "either gives back the first study"
unfoldable pub merged : Limits → Plan → Plan → Added
merged l first second = answer (merge_check l first second) first (run_from l first (listed second))

-- what a merge answers: that study, or the refusal alone, since the first is still the caller's
unfoldable pub merge_answer : Limits → Plan → Plan → Result Plan Refusal
merge_answer l first second = answered (merged l first second).check (merged l first second).study
