-- `study::Study::add_segment` meets its contract.
use Rattle.std.proofs.Common.{sym, ◌∙◌}
use Rattle.study.specs.Add.{ours}
use Rattle.study.proofs.Additions.{segments_below}
use Rattle.study.proofs.Held.{more_held}
use Rattle.study.proofs.Study.add_segment.Goals as goal

-- the arrays hold the plan still, with the segment in the first place that was not taken
pub invariant_of-self : goal.invariant_of-self
invariant_of-self c =
    (more_held c.self.invariant.0 c.args.segment (segments_below ours _ (sym c.segment_limit.ensures ∙ c.in_ok-segment_limit.was)), c.self.invariant.1)
