-- `study::Study::add_train` meets its contract.
use Rattle.std.proofs.Common.{sym, ◌∙◌}
use Rattle.study.specs.Add.{ours}
use Rattle.study.proofs.Additions.{train_taken}
use Rattle.study.proofs.Held.{more_held}
use Rattle.study.proofs.Study.add_train.Goals as goal

-- the arrays hold the plan still, with the entry in the first place that was not taken
pub invariant_of-self : goal.invariant_of-self
invariant_of-self c =
    (c.self.invariant.0, more_held c.self.invariant.1 _ (train_taken ours _ _ _ (sym c.train_answer.ensures.is ∙ c.in_ok-train_answer.was)).room)
