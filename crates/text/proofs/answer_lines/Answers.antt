-- `text::answer_lines` meets its contract. Both loops' invariant: what is left to read gives the whole answer, and what was worked out is kept.
use Rattle.std.proofs.Common.{arith, refl, sym, ◌∙◌, length, rules, subst, ◌≤◌}
use Rattle.study.specs.Plan.{empty_plan}
use Rattle.request.proofs.Answers.{Few, plan_answered}
use Rattle.text.specs.Private.{Answers}
use Rattle.text.proofs.Rest.{rest_start, rest_segment, rest_none, rest_trains, rest_train, rest_after, rest_over, rest_done}
use Rattle.text.proofs.Worked.{worked_none}
use Rattle.text.proofs.Reached.{reached_as, added_room, reached_segment, segment_at_fault, train_place, reached_train, train_at_fault}
use Rattle.text.proofs.TextAnswers.{refused_answers, accepted_answers, line_mapped}
use Rattle.text.proofs.answer_lines.Goals as goal

pub loop-segment-init : goal.loop-segment-init
loop-segment-init c = record { study = empty_plan; left = rest_start _ _ refl; worked = worked_none c.new-added.ensures c.new-entries.ensures }

pub push-requires : goal.push-requires
push-requires c = (search rules, added_room (reached_as (λ st r. rest_segment c.loop-segment.segment r (omega arith)) c.loop-segment.invariant) c.in-Ok.ensures)

pub loop-init : goal.loop-init
loop-init c =
    let here = reached_as (λ st r. rest_segment c.loop-segment.segment r (omega arith)) c.loop-segment.invariant in
    rw c.push.ensures.items (reached_as (λ st r. rest_trains _ _ r) (reached_segment here c.in-Ok.ensures))

pub push-requires-in-Ok-train_at : goal.push-requires-in-Ok-train_at
push-requires-in-Ok-train_at c = (search rules, train_place (reached_as (λ st r. rest_train _ c.loop.counter _ r (omega arith)) c.loop.invariant) c.len.ensures.value c.in-Ok-train_at.ensures)

pub loop-preserved : goal.loop-preserved
loop-preserved c =
    rw c.push-in-Ok-train_at.ensures.items
    (reached_train (reached_as (λ st r. rest_train _ c.loop.counter _ r (omega arith)) c.loop.invariant) c.len.ensures.value c.in-Ok-train_at.ensures c.loop-segment.segment refl)

pub loop-segment-preserved : goal.loop-segment-preserved
loop-segment-preserved c = reached_as (λ st r. rest_after _ c.loop.counter _ r (omega arith)) c.loop.invariant

pub returns-in-Err : goal.returns-in-Err
returns-in-Err c =
    refused_answers refl (segment_at_fault (reached_as (λ st r. rest_segment c.loop-segment.segment r (omega arith)) c.loop-segment.invariant) c.in-Err.ensures)

pub returns-in-Err-train_at : goal.returns-in-Err-train_at
returns-in-Err-train_at c =
    refused_answers refl (train_at_fault (reached_as (λ st r. rest_train _ c.loop.counter _ r (omega arith)) c.loop.invariant) c.len.ensures.value c.in-Err-train_at.ensures)

pub returns-then-not-is_empty : goal.returns-then-not-is_empty
returns-then-not-is_empty c =
    refused_answers refl (rest_over (rest_none c.loop-segment.segment c.loop-segment.invariant.left (omega arith)) c.if-not-is_empty.ensures)

pub returns-else-not-is_empty : goal.returns-else-not-is_empty
returns-else-not-is_empty c =
    let here = c.loop-segment.invariant in
    let few : Few here.study = record { segments = omega (arith, here.worked.count, here.worked.few); entries = subst (λ es. length es ≤ 96) here.worked.rows here.worked.held } in
    let answer = plan_answered here.study few (c.as_slice.ensures.value ∙ here.worked.adds) (c.as_slice-2.ensures.value ∙ here.worked.rows) c.levels_by.ensures.answered in
    subst (Answers _ _ _) (sym (line_mapped c.levels_by.result (search rules))) (accepted_answers (rest_done (rest_none c.loop-segment.segment here.left (omega arith)) c.if-not-is_empty.ensures) answer)
