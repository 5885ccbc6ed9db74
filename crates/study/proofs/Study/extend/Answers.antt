-- `study::Study::extend` meets its contract.
use Rattle.std.proofs.Common.{refl, arith}
use Rattle.study.specs.Plan.{no_segment, no_entry}
use Rattle.study.proofs.Remaining.{read_there, at_first, at_last, entry_passed, train_tried, segment_tried}
use Rattle.study.proofs.Study.extend.Goals as goal
use Rattle.study.proofs.Study.extend.Goals.{then-entry-k, else-entry-k}

pub loop-k-init : goal.loop-k-init
loop-k-init c = at_first _ _

pub loop-entry-init : goal.loop-entry-init
loop-entry-init c = record { rest = refl }

pub loop-entry-preserved : goal.loop-entry-preserved
loop-entry-preserved c =
    let within = c.loop-entry-test.true in
    elim c.if-entry-k.branch [
      | then-entry-k w ↦ rw w.self-is (train_tried _ within c.loop-entry.invariant (read_there _ no_entry refl within) w.if-entry-k.true w.add_train.ensures.is)
      | else-entry-k w ↦ rw w.self-is (entry_passed _ within c.loop-entry.invariant (read_there _ no_entry refl within) w.if-entry-k.false)
    ]

pub loop-k-preserved : goal.loop-k-preserved
loop-k-preserved c =
    let there = c.loop-k-test.true in
    segment_tried _ there c.loop-k.invariant (read_there _ no_segment refl there) c.add_segment.ensures.is
    (omega (arith, c.loop-entry-test.false))
    c.loop-entry.invariant

pub returns : goal.returns
returns c = at_last _ _ (omega (arith, c.loop-k-test.false)) c.loop-k.invariant
