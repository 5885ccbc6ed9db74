-- The lists of two studies joined (02, L5: "all segments and entries of the first, then those of the second, in their order, each entry with its own segment").
-- Assumes nothing.
use Rattle.std.specs.Prelude.{◌++◌, map, ℕ, ◌+◌, length}
use Rattle.study.specs.declared.Entry.{Entry}
use Rattle.study.specs.Plan.{Plan}
use Rattle.study.specs.Add.{Limits}
use Rattle.study.specs.Run.{kept}
use Rattle.merging.specs.Merge.{merge_check}

-- an entry of a study that comes after so many segments: its own segment is that many places later
unfoldable pub raised_by : ℕ → Entry → Entry
raised_by k e = record { segment = k + e.segment; train = e.train }

unfoldable pub joined : Plan → Plan → Plan
joined p q = record { segments = p.segments ++ q.segments; entries = p.entries ++ map (raised_by (length p.segments)) q.entries }

-- what the merged study holds, by the two lists alone: the first's where they are too many
unfoldable pub merged_plan : Limits → Plan → Plan → Plan
merged_plan l p q = kept (merge_check l p q) p (joined p q)
