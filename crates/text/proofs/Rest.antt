-- The reading of what is left of a text and of the kinds of line to come: it gives the whole answer.
-- Assumes nothing.
use Rattle.std.proofs.Common.{◌≡◌, ℕ, suc, ◌+◌, ◌-◌, ◌≤◌, ◌<◌, List, [], ◌∷◌, length, get_or, drop, eqb, true, false, eqb-true, sym, refl, ◌∙◌, add-one, arith, drop_of_length-le, drop-cons, Err}
use native.Mathlib.Nat.{sub-zero}
use borrow.Author.Tests.{eqb-false}
use Rattle.figures.specs.declared.Refusal.{Refusal}
use Rattle.figures.specs.declared.Refusal.TheVariants as R
use Rattle.study.specs.Plan.{Plan, empty_plan}
use Rattle.study.specs.Add.{ours}
use Rattle.text.specs.Text.{Line, lines_of, Kind, segment_kind, train_kind, trains, kinds_of, accepted_with, refused_at, read_lines}
use Rattle.text.specs.Private.{body_reading, LineRefused, Took, first_adds}
use Rattle.text.proofs.Places.{View, at_end, at_torn, at_line, view, past_shorter}

-- a first line that is refused is at fault
read_fault : (p : Kind) (st : Plan) (k : ℕ) (ps : List Kind) (xs : List Line) {f : Refusal} → first_adds p st xs ≡ Err f → read_lines ours st k (p ∷ ps) xs ≡ refused_at f k
unfolding read_lines first_adds
read_fault p st k ps [] e = cc
read_fault p st k ps (x ∷ xs) e = rw e

-- no kind of line is left
module _ (st : Plan) (text : List ℕ) (k : ℕ) where
  read_done : true ≡ eqb (length text) 0 → read_lines ours st k [] (lines_of text) ≡ accepted_with st
  unfolding read_lines
  read_done h = go (view text)
    where
      go : View text → read_lines ours st k [] (lines_of text) ≡ accepted_with st
      go (at_end m e) = rw e
      go (at_torn m e) = absurd (omega (arith, eqb-true (length text) 0 (sym h)))
      go (at_line rest m e) = absurd (omega (arith, eqb-true (length text) 0 (sym h), past_shorter 10 text m))

  read_over : false ≡ eqb (length text) 0 → read_lines ours st k [] (lines_of text) ≡ refused_at R.Contents k
  unfolding read_lines
  read_over h = go (view text)
    where
      go : View text → read_lines ours st k [] (lines_of text) ≡ refused_at R.Contents k
      go (at_end m e) = absurd (eqb-false (length text) 0 (sym h) m)
      go (at_torn m e) = rw e
      go (at_line rest m e) = rw e

-- ---- a place in the reading: what is left from here gives the whole answer

pub record Rest (text counts : List ℕ) (st : Plan) (rest : List ℕ) (k : ℕ) (ps : List Kind) : Type 0 where
  pub bound : k + length rest ≤ length text + 2
  pub whole : body_reading counts text ≡ read_lines ours st k ps (lines_of rest)

pub rest_start : (text counts : List ℕ) {st : Plan} → st ≡ empty_plan → Rest text counts st text 2 (kinds_of counts)
rest_start text counts e = rw e (record { bound = omega arith; whole = refl })

module _ {text counts : List ℕ} {st : Plan} {rest : List ℕ} {k : ℕ} where
  -- the kinds of line to come
  module _ (i : ℕ) (r : Rest text counts st rest k (kinds_of (drop i counts))) where
    pub rest_segment : i < length counts → Rest text counts st rest k (segment_kind ∷ trains (get_or counts i 0) (kinds_of (drop (i + 1) counts)))
    unfolding kinds_of
    rest_segment h = rw add-one (rw (drop-cons counts i 0 h) at r)

    pub rest_none : length counts ≤ i → Rest text counts st rest k []
    unfolding kinds_of
    rest_none h = rw (drop_of_length-le counts h) at r

  pub rest_trains : (n : ℕ) (ps : List Kind) → Rest text counts st rest k (trains n ps) → Rest text counts st rest k (trains (n - 0) ps)
  rest_trains n ps r = rw (sub-zero n) r

  module _ (n j : ℕ) (ps : List Kind) (r : Rest text counts st rest k (trains (n - j) ps)) where
    pub rest_train : j < n → Rest text counts st rest k (train_kind ∷ trains (n - (j + 1)) ps)
    unfolding trains
    rest_train h = let e : n - j ≡ suc (n - (j + 1)) = omega arith in rw e at r

    pub rest_after : n ≤ j → Rest text counts st rest k ps
    unfolding trains
    rest_after h = let e : n - j ≡ 0 = omega arith in rw e at r

  module _ {p : Kind} {ps : List Kind} (r : Rest text counts st rest k (p ∷ ps)) where
    pub rest_refused : {f : Refusal} → LineRefused p st rest f → body_reading counts text ≡ refused_at f k
    rest_refused e = r.whole ∙ read_fault p st k ps (lines_of rest) e

    pub rest_next : {next : List ℕ} {new : Plan} → Took p st rest next new → Rest text counts new next (k + 1) ps
    unfolding read_lines
    rest_next w =
        record { bound = omega (arith, w.ahead, r.bound); whole = r.whole ∙ rw (w.lines, w.accepted, w.is) }

  module _ (r : Rest text counts st rest k []) where
    pub rest_over : false ≡ eqb (length rest) 0 → body_reading counts text ≡ refused_at R.Contents k
    rest_over h = r.whole ∙ read_over st rest k h

    pub rest_done : true ≡ eqb (length rest) 0 → body_reading counts text ≡ accepted_with st
    rest_done h = r.whole ∙ read_done st rest k h
