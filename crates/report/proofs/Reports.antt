-- Laws of the whole report: from what a text comes to.
-- Assumes nothing.
use mathlib.Core.Path.{◌≡◌, refl, sym}
use mathlib.Core.List.{List}
use Prim.Native.Nat.{ℕ, ◌<◌, ◌≤◌, ◌^◌}
use native.Mathlib.Omega.{arith}
use lib.IntN.{ℤ}
use lib.ListN.{length}
use Rattle.std.specs.Prelude.{Ok, Err, IfOk, IfErr}
use Rattle.text.specs.Answer.{TextAnswer, text_answer, TextAnswered}
use Rattle.words.proofs.Notices.{notice_length}
use Rattle.report.specs.Report.{answer_lines, cells_lent, written, noticed, report_by, notice_by, report_of, notice_for, report_room, notice_room, Reported}
use Rattle.report.proofs.Lines.{refusal_length}

-- a text's answer is what is written of it, and it has room
pub text_reported : (text : List ℕ) {before after : List ℤ} (r : TextAnswer)
    → TextAnswered text before after r
    → length before ≡ cells_lent
    → IfOk r (λ results. length (answer_lines results.day results.night) ≤ report_room)
    → IfErr r (λ fault. fault.line < 2 ^ 64)
    → Reported text (record { 0 = r })
unfolding written noticed report_of notice_for
text_reported text r q k room line =
    let same : text_answer text cells_lent ≡ r = sym (rw k at q.answer) in
    let held = go r room line in
    record { output = rw same refl; output_room = rw same held.0; told = rw same refl; told_room = rw same held.1; allowed = q.allowed }
  where
    go : (x : TextAnswer) → IfOk x (λ results. length (answer_lines results.day results.night) ≤ report_room) → IfErr x (λ fault. fault.line < 2 ^ 64) → (length (report_by x) ≤ report_room) × (length (notice_by x) ≤ notice_room)
    go (Ok results) h e = (h, omega arith)
    go (Err fault) h e = (omega (arith, refusal_length fault.refusal fault.line e), notice_length fault.refusal fault.line e)
