-- Demand 3 for a study that a text gives: it counts as the list of its segments and entries.
-- Assumes nothing.
use mathlib.Core.Path.{◌≡◌, subst}
use mathlib.Core.Bool.{true}
use mathlib.Core.List.{List}
use Prim.Native.Nat.{ℕ, ◌≤◌}
use lib.IntN.{ℤ}
use lib.ListN.{length}
use Rattle.figures.specs.declared.Period.{Period}
use Rattle.study.specs.Plan.{Plan}
use Rattle.study.specs.Add.{Limits}
use Rattle.study.specs.Run.{accepted}
use Rattle.request.specs.Request.{Answer, cells_needed, Answered, result_in}
use Rattle.request.specs.Accuracy.{has_trains, AccurateToBare, demanded}
use Rattle.request.proofs.Demand3.{LimitsFit, levels_accurate}
use Rattle.text.specs.Text.{read_text}
use Rattle.text.specs.Additions.{additions_of}
use Rattle.text.proofs.Runs.{accepted_text_is_run}
use Rattle.std.specs.Prelude.{Ok}

pub text_accurate : (l : Limits) → LimitsFit l → (text : List ℕ) → (read_text l text).check ≡ Ok tt → (p : Period) → has_trains p (accepted l (additions_of l text)).entries ≡ true →
    (before after : List ℤ) (r : Answer) → cells_needed (length (accepted l (additions_of l text)).entries) ≤ length before →
    Answered (read_text l text).study before after r → AccurateToBare demanded p (accepted l (additions_of l text)) (result_in p r)
text_accurate l fit text ok p trains before after r enough a =
    levels_accurate l fit (additions_of l text) p trains before after r enough
    (subst (λ (st : Plan). Answered st before after r) (accepted_text_is_run l text ok) a)
