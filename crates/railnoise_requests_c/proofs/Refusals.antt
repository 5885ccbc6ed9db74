-- What a caller can rely on: which refusals come, that the text is told with them, and that a marked text makes no difference.
-- Assumes nothing.
use mathlib.Core.Path.{◌≡◌, refl, sym, ap, ◌∙◌}
use mathlib.Core.Bool.{Bool, true, false, cond}
use mathlib.Core.List.{List, []}
use Prim.Native.Nat.{ℕ, ◌≤◌, ◌<◌}
use native.Mathlib.Omega.{arith}
use Rattle.figures.specs.declared.Refusal.{Refusal}
use Rattle.figures.specs.declared.Refusal.TheVariants as R
use Rattle.figures.specs.Refusal.{number_of, check_number, check_of, answered, Check}
use Rattle.study.specs.Add.{ours}
use Rattle.text.specs.Text.{Reading, read_text}
use Rattle.text.proofs.Refusals.{text_refusal_is_own}
use Rattle.entitlement.specs.Entitlement.{Lines, entitlement_of}
use Rattle.railnoise_requests_c.specs.declared.RailnoiseEntitlementAnswer.{RailnoiseEntitlementAnswer}
use Rattle.railnoise_requests_c.specs.Entitlement.{exported_entitlement, Source, source_check, given_lines, ended_by, read_at, layout_of, entitlement_in, as_looked_at, source, EntitlementCalled, EntitlementCalls}
use Rattle.railnoise_requests_c.specs.Private.{looked_at, source_of}
use Rattle.entitlement.proofs.Answers.{all_allowed}
use Rattle.railnoise_requests_c.proofs.Calls.{layout_few, kept_all}
use Rattle.std.specs.Prelude.{Option, Some, None, Ok, Err}

-- no refusal has the number 0
pub number_some : (r : Refusal) → 0 < number_of r
unfolding number_of
number_some R.Distance = omega arith
number_some R.Height = omega arith
number_some R.Ground = omega arith
number_some R.Angle = omega arith
number_some R.Screen = omega arith
number_some R.Shadow = omega arith
number_some R.Reading = omega arith
number_some R.Row = omega arith
number_some R.Speed = omega arith
number_some R.Vehicles = omega arith
number_some R.Trains = omega arith
number_some R.Form = omega arith
number_some R.Contents = omega arith
number_some R.NoSegment = omega arith
number_some R.SegmentLimit = omega arith
number_some R.EntryLimit = omega arith
number_some R.NoEntry = omega arith
number_some R.FewCells = omega arith
number_some R.EntryNumber = omega arith
number_some R.NoSpeed = omega arith

-- a refusal of a text's own, with the text's place; or none, with no place
record Sound (r : RailnoiseEntitlementAnswer) : Type 0 where
  own : r.refusal ≤ 13
  none_refused : r.text ≡ 0 → r.refusal ≡ 0
  none_told : r.refusal ≡ 0 → r.text ≡ 0

source_own : (s : Source) → check_number (source_check s) ≤ 13
unfolding source_check check_number
source_own s = go s.empty
  where
    go : (b : Bool) → check_number (cond b (Ok tt) (read_text ours s.text).check) ≤ 13
    go true = omega arith
    go false = text_refusal_is_own ours s.text

-- one text before others
read_sound : (place : ℕ) (s : Source) (rest : RailnoiseEntitlementAnswer) → 0 < place → (source_check s ≡ Ok tt → Sound rest) → Sound (read_at place s rest)
unfolding read_at exported_entitlement check_of check_number
read_sound place s rest some sound = go (source_check s) refl
  where
    line : ℕ
    line = (read_text ours s.text).line

    go : (k : Check) → source_check s ≡ k → Sound (ended_by k place line rest)
    go (Ok _) e = sound e
    go (Err why) e =
        let small : check_number (Err why) ≤ 13 = rw e at (source_own s) in
        let n = number_some why in
        record { own = small; none_refused = λ z. absurd (omega arith); none_told = λ z. absurd (omega arith) }

module _ (a b c d : Source) where
  answer_sound : source_check a ≡ Ok tt → source_check b ≡ Ok tt → source_check c ≡ Ok tt → source_check d ≡ Ok tt → Sound (exported_entitlement (entitlement_of (layout_of a c) (layout_of b d)) 0 0)
  unfolding exported_entitlement entitlement_of answered check_of check_number
  answer_sound e f g h = rw (kept_all a b c d e f g h) (record { own = omega arith; none_refused = λ _. refl; none_told = λ _. refl })

  call_sound : Sound (entitlement_in a b c d)
  unfolding entitlement_in
  call_sound =
      read_sound 1 a _ (omega arith) (λ e. read_sound 2 b _ (omega arith) (λ f. read_sound 3 c _ (omega arith) (λ g. read_sound 4 d _ (omega arith) (answer_sound e f g))))

-- ---- marked texts

lines_unread : (s : Source) → given_lines s ≡ given_lines (as_looked_at s)
unfolding given_lines
lines_unread s = go s.empty
  where
    go : (b : Bool) → ◌≡◌ {A = Lines} (cond b None (Some (read_text ours s.text).study)) (cond b None (Some (read_text ours (cond b [] s.text)).study))
    go true = refl
    go false = refl

read_unread : (place : ℕ) (s : Source) (rest : RailnoiseEntitlementAnswer) → read_at place s rest ≡ read_at place (as_looked_at s) rest
unfolding read_at source_check
read_unread place s rest = go s.empty
  where
    read : Bool → Reading
    read b = read_text ours (cond b [] s.text)

    go : (b : Bool) → ended_by (cond b (Ok tt) (read_text ours s.text).check) place (read_text ours s.text).line rest ≡ ended_by (cond b (Ok tt) (read b).check) place (read b).line rest
    go true = refl
    go false = refl

unread : (a b c d : Source) → entitlement_in a b c d ≡ entitlement_in (as_looked_at a) (as_looked_at b) (as_looked_at c) (as_looked_at d)
unfolding entitlement_in
unread a b c d =
    rw (lines_unread a, lines_unread b, lines_unread c, lines_unread d)
    (read_unread 1 a _ ∙ ap (read_at 1 (as_looked_at a)) (read_unread 2 b _ ∙ ap (read_at 2 (as_looked_at b)) (read_unread 3 c _ ∙ ap (read_at 3 (as_looked_at c)) (read_unread 4 d _))))

-- what is looked at of the texts gives the whole call
seen_is : (s : Source) → source_of (looked_at s) ≡ as_looked_at s
seen_is s = go s.empty
  where
    go : (b : Bool) → source_of (cond b None (Some s.text)) ≡ source b (cond b [] s.text)
    go true = refl
    go false = refl

pub called : (a b c d : Source) {first second third fourth : Option (List ℕ)} → first ≡ looked_at a → second ≡ looked_at b → third ≡ looked_at c → fourth ≡ looked_at d
    → {r : RailnoiseEntitlementAnswer} → r ≡ entitlement_in (source_of first) (source_of second) (source_of third) (source_of fourth) → EntitlementCalled a b c d r
called a b c d e f g h q =
    record {
      answer = q ∙ rw (e, f, g, h, seen_is a, seen_is b, seen_is c, seen_is d) (sym (unread a b c d));
      allowed = all_allowed (layout_of a c) (layout_of b d) (layout_few a c) (layout_few b d);
    }

pub entitlement_calls : EntitlementCalls
entitlement_calls =
    record {
      own_refusal = λ a b c d. (call_sound a b c d).own;
      text_told = λ a b c d. ((call_sound a b c d).none_refused, (call_sound a b c d).none_told);
      marked_unread = unread;
    }
