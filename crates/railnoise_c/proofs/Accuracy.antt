-- Demand 3 for what C gets.
-- Assumes nothing.
use mathlib.Core.Path.{◌≡◌, refl, sym, ◌∙◌, subst}
use mathlib.Core.List.{List}
use Prim.Native.Nat.{ℕ, ◌≤◌}
use lib.IntN.{ℤ}
use lib.ListN.{length}
use Rattle.figures.specs.declared.Period.{Period}
use Rattle.figures.specs.declared.Period.TheVariants.{Day, Night}
use Rattle.figures.specs.Periods.{in_period}
use Rattle.figures.specs.Refusal.{answered}
use Rattle.study.specs.Add.{ours}
use Rattle.study.specs.Plan.{Plan}
use Rattle.request.specs.Levels.{own_marks}
use Rattle.request.specs.Request.{Answer, cells_needed, levels_check, answer_by, Answered, result_in, answer_of}
use Rattle.study.proofs.Runs.{run-accepted}
use Rattle.request.proofs.Demand3.{request_answered, ours_fit}
use Rattle.text.specs.Text.{read_text}
use Rattle.text.specs.Additions.{additions_of}
use Rattle.text.proofs.Runs.{accepted_text_is_run, accepted_line}
use Rattle.text.proofs.Counted.{accepted_text_has_entry}
use Rattle.text.proofs.Accuracy.{text_accurate}
use Rattle.railnoise_c.specs.declared.RailnoiseAnswer.{RailnoiseAnswer}
use Rattle.text.specs.Answer.{at_line, answer_with, cells_with, text_answer}
use Rattle.c_values.specs.Values.{exported_period}
use Rattle.c_values.proofs.Accuracy.{exported_accurate}
use Rattle.railnoise_c.specs.Exported.{exported, Called}
use Rattle.railnoise_c.specs.Accuracy.{listed_in, period_in, AnswerAccurate, CallAccurate}
use Rattle.std.specs.Prelude.{Ok, Err}

period_exported : (p : Period) (a : Answer) → period_in p (exported (at_line 0 a)) ≡ exported_period (result_in p a)
unfolding period_in exported result_in in_period
period_exported Day (Ok both) = refl
period_exported Night (Ok both) = refl
period_exported Day (Err why) = refl
period_exported Night (Err why) = refl

module _ (text : List ℕ) (before after : List ℤ) (r : RailnoiseAnswer) (call : Called text before after r) (ok : (read_text ours text).check ≡ Ok tt) where
  abbrev plan : Plan
  plan = (read_text ours text).study

  abbrev answer : Answer
  answer = answer_by (levels_check plan (length before)) plan (own_marks plan)

  whole : r ≡ exported (at_line 0 answer)
  unfolding text_answer answer_with
  whole = rw (ok, accepted_line ours text ok) at call.answer

  answered_is : Answered plan before after answer
  unfolding cells_with
  answered_is = record { by = record { cells = rw ok at call.cells; answer = refl }; allowed = call.allowed }

  plan_is : plan ≡ listed_in text
  unfolding listed_in
  plan_is = accepted_text_is_run ours text ok ∙ run-accepted ours (additions_of ours text)

  module _ (enough : cells_needed (length (listed_in text).entries) ≤ length before) where
    check_is : levels_check plan (length before) ≡ Ok tt
    unfolding listed_in
    check_is = rw plan_is (request_answered (listed_in text) (length before) (accepted_text_has_entry ours text ok) enough)

    accurate : AnswerAccurate (listed_in text) r
    unfolding exported listed_in answer_of answered
    accurate =
        subst (AnswerAccurate (listed_in text)) (sym whole)
        (record {
          refusal = rw check_is refl;
          line = rw check_is refl;
          period = λ p trains. rw (period_exported p answer) (exported_accurate p (listed_in text) (result_in p answer) (text_accurate ours ours_fit text ok p trains before after answer enough answered_is));
        })

pub call_accurate : CallAccurate
call_accurate text before after r call ok enough = accurate text before after r call ok enough
