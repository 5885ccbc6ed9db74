-- What a caller of the highest speed can rely on: which refusals come, and that the speed is safe for the text's own lines.
-- Assumes nothing.
use mathlib.Core.Path.{◌≡◌, refl, ap, ◌∙◌, subst}
use mathlib.Core.Logic.{◌⊎◌, inl, inr}
use mathlib.Core.Bool.{Bool}
use mathlib.Core.List.{List}
use Prim.Native.Nat.{ℕ, ◌≤◌}
use native.Mathlib.Omega.{arith}
use lib.IntN.{ℤ}
use Rattle.figures.specs.declared.Period.{Period}
use Rattle.figures.specs.declared.Refusal.{Refusal}
use Rattle.figures.specs.declared.Refusal.TheVariants.{EntryNumber, NoSpeed}
use Rattle.figures.specs.Refusal.{number_of, check_number, Check}
use Rattle.study.specs.Plan.{Plan}
use Rattle.study.specs.Add.{ours}
use Rattle.study.specs.Run.{accepted}
use Rattle.study.proofs.Runs.{run-accepted}
use Rattle.text.specs.Text.{read_text}
use Rattle.text.specs.Additions.{additions_of}
use Rattle.text.specs.Answer.{check_at, line_at, refused_line, at_line, plan_in}
use Rattle.text.proofs.Runs.{accepted_text_is_run, accepted_line, text_held}
use Rattle.text.proofs.Refusals.{text_refusal_is_own}
use Rattle.speeds.specs.Speeds.{SpeedAnswer, speed_of, speed_answer}
use Rattle.speeds.specs.Laws.{IsEntry, BelowAt, Highest}
use Rattle.speeds.proofs.Laws.{speed_laws}
use Rattle.text_speeds.specs.TextSpeeds.{speed_with, text_speed}
use Rattle.railnoise_requests_c.specs.declared.RailnoiseSpeedAnswer.{RailnoiseSpeedAnswer}
use Rattle.railnoise_requests_c.specs.Speed.{period_by, exported_speed, SpeedCalled, SpeedSafe, OfAcceptedText, SpeedCalls}
use Rattle.railnoise_requests_c.proofs.Refusals.{number_some}
use Rattle.std.specs.Prelude.{Ok, Err}

-- an accepted text's plan is what its lines alone list
listed_is : (text : List ℕ) → (read_text ours text).check ≡ Ok tt → plan_in text ≡ accepted ours (additions_of ours text)
listed_is text ok = accepted_text_is_run ours text ok ∙ run-accepted ours (additions_of ours text)

module _ (text : List ℕ) (entry : ℕ) (p : Period) (limit : ℤ) where
  -- a refused text, and an accepted one
  refused_is : {why : Refusal} → (read_text ours text).check ≡ Err why → text_speed text entry p limit ≡ refused_line why (read_text ours text).line
  unfolding text_speed speed_with
  refused_is e = rw e

  accepted_is : {r : SpeedAnswer} → (read_text ours text).check ≡ Ok tt → speed_answer (plan_in text) entry p limit ≡ r → text_speed text entry p limit ≡ at_line 0 r
  unfolding text_speed speed_with
  accepted_is ok is = rw (ok, accepted_line ours text ok, is) refl

  -- what is answered of a plan
  safe_in : {v : ℕ} → (read_text ours text).check ≡ Ok tt → speed_answer (plan_in text) entry p limit ≡ Ok v → SpeedSafe (accepted ours (additions_of ours text)) entry p limit v
  safe_in {v} ok e =
      let l = speed_laws in
      let h = l.answered (plan_in text) entry p limit v e in
      let few = (text_held ours text).total in
      let same = listed_is text ok in
      record {
        is_entry = subst (λ (q : Plan). IsEntry q entry) same h.0;
        highest = subst (λ (q : Plan). Highest q entry p limit v) same h.1;
        lower = λ w low high. subst (λ (q : Plan). BelowAt q entry p limit w) same (l.lower (plan_in text) few entry p limit v e w low high);
        bare = λ trains w low high. l.bare (additions_of ours text) entry p limit w trains low high;
      }

check_number_lem : {c : Check} {why : Refusal} → c ≡ Err why → check_number c ≡ number_of why
unfolding check_number
check_number_lem e = rw e refl

-- a text's own refusal
own_number : (text : List ℕ) {why : Refusal} → (read_text ours text).check ≡ Err why → number_of why ≤ 13
own_number text e = subst (λ (n : ℕ). n ≤ 13) (check_number_lem e) (text_refusal_is_own ours text)

some_number : (why : Refusal) {n : ℕ} → n ≡ number_of why → n ≡ 0 → ⊥
some_number why e f = omega (arith, number_some why)

module _ (text : List ℕ) (entry : ℕ) (night : Bool) (limit : ℤ) (r : RailnoiseSpeedAnswer) (call : SpeedCalled text entry night limit r) where
  abbrev p : Period
  p = period_by night

  -- what C gets of a refused text, and of an accepted one
  of_refused : {why : Refusal} → (read_text ours text).check ≡ Err why → r ≡ exported_speed (refused_line why (read_text ours text).line)
  of_refused e = call.answer ∙ ap exported_speed (refused_is text entry p limit e)

  of_plan : {d : SpeedAnswer} → (read_text ours text).check ≡ Ok tt → speed_answer (plan_in text) entry p limit ≡ d → r ≡ exported_speed (at_line 0 d)
  of_plan ok e = call.answer ∙ ap exported_speed (accepted_is text entry p limit ok e)

  answered_law : r.refusal ≡ 0 → (r.line ≡ 0) × SpeedSafe (accepted ours (additions_of ours text)) entry p limit r.speed
  unfolding exported_speed check_at line_at speed_of check_number
  answered_law z = go (read_text ours text).check refl (speed_answer (plan_in text) entry p limit) refl
    where
      go : (c : Check) → (read_text ours text).check ≡ c → (d : SpeedAnswer) → speed_answer (plan_in text) entry p limit ≡ d → (r.line ≡ 0) × SpeedSafe (accepted ours (additions_of ours text)) entry p limit r.speed
      go (Err why) e d f = absurd (some_number why (ap (λ (x : RailnoiseSpeedAnswer). x.refusal) (of_refused e)) z)
      go (Ok _) e (Err why) f = absurd (some_number why (ap (λ (x : RailnoiseSpeedAnswer). x.refusal) (of_plan e f)) z)
      go (Ok _) e (Ok v) f =
          let is = of_plan e f in
          (ap (λ (x : RailnoiseSpeedAnswer). x.line) is, rw (ap (λ (x : RailnoiseSpeedAnswer). x.speed) is) (safe_in text entry p limit e f))

  refused_law : (r.refusal ≡ 0 → ⊥) → (r.speed ≡ 0) × ((r.refusal ≤ 13) ⊎ OfAcceptedText text r)
  unfolding exported_speed check_at line_at speed_of check_number number_of
  refused_law some = go (read_text ours text).check refl (speed_answer (plan_in text) entry p limit) refl
    where
      -- one of the two that a plan is refused with
      told : {why : Refusal} → (read_text ours text).check ≡ Ok tt → r ≡ exported_speed (at_line 0 (Err why)) → (why ≡ EntryNumber) ⊎ (why ≡ NoSpeed) → OfAcceptedText text r
      told ok is (inl e) = record { accepted = ok; line = ap (λ (x : RailnoiseSpeedAnswer). x.line) is; number = inl (ap (λ (x : RailnoiseSpeedAnswer). x.refusal) is ∙ ap number_of e) }
      told ok is (inr e) = record { accepted = ok; line = ap (λ (x : RailnoiseSpeedAnswer). x.line) is; number = inr (ap (λ (x : RailnoiseSpeedAnswer). x.refusal) is ∙ ap number_of e) }

      go : (c : Check) → (read_text ours text).check ≡ c → (d : SpeedAnswer) → speed_answer (plan_in text) entry p limit ≡ d → (r.speed ≡ 0) × ((r.refusal ≤ 13) ⊎ OfAcceptedText text r)
      go (Err why) e d f =
          let is = of_refused e in
          (ap (λ (x : RailnoiseSpeedAnswer). x.speed) is, inl (omega (arith, ap (λ (x : RailnoiseSpeedAnswer). x.refusal) is, own_number text e)))
      go (Ok _) e (Ok v) f = absurd (some (ap (λ (x : RailnoiseSpeedAnswer). x.refusal) (of_plan e f)))
      go (Ok _) e (Err why) f =
          let is = of_plan e f in
          (ap (λ (x : RailnoiseSpeedAnswer). x.speed) is, inr (told e is (speed_laws.refused (plan_in text) entry p limit why f).0))

pub speed_calls : SpeedCalls
speed_calls = record { answered = answered_law; refused = refused_law }
