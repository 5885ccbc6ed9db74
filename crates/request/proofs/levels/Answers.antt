-- `request::levels` meets its contract: what its segments add, its entries' levels, and the answer from them.
use Rattle.std.proofs.Common.{arith, ◌∙◌, ap, map, length, ◌≤◌, List, subst}
use lib.Seq.{take_all}
use Rattle.figures.specs.declared.Segment.{Segment}
use Rattle.propagation.specs.Propagation.{propagation_of}
use Rattle.study.specs.declared.Entry.{Entry}
use Rattle.study.specs.Add.{ours}
use Rattle.request.proofs.Answers.{Few, plan_answered, plan_answer_number}
use Rattle.request.proofs.levels.Goals as goal

pub returns : goal.returns
returns c =
    let plan = c.args.study.now in
    let segments = c.segments-segment-items in
    let few : Few plan = record {
      segments = subst (λ (ss : List Segment). length ss ≤ ours.segments) segments.ensures.is segments.ensures.most;
      entries = subst (λ (es : List Entry). length es ≤ ours.entries) c.entries.ensures.is c.entries.ensures.most;
    } in
    let all = c.as_slice.ensures.value ∙ c.loop-segment.invariant ∙ ap (map propagation_of) (take_all c.loop-segment.segment-index segments.result.now (omega (arith, c.loop-segment-test.false)) ∙ segments.ensures.is) in
    let answer = plan_answered plan few all c.entries.ensures.is c.levels_by.ensures.answered in
    record { answered = answer; number = plan_answer_number answer }
