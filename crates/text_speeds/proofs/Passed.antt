-- The lines of a text passed one after another: how many trains were read, and which of them stands at a place.
-- Assumes nothing.
use mathlib.Core.Path.{◌≡◌, refl, sym, ap, ◌∙◌}
use mathlib.Core.List.{List, [], ◌∷◌, ◌++◌, append_assoc, append-nil}
use Prim.Native.Nat.{ℕ, zero, suc, ◌+◌, ◌≤◌}
use native.Mathlib.Omega.{arith}
use lib.ListN.{length, length-append, length-map}
use lib.Seq.{get_or_at}
use Rattle.figures.specs.declared.Train.{Train}
use Rattle.study.specs.Add.{ours}
use Rattle.lines.specs.Bytes.{until, past}
use Rattle.lines.specs.Lines.{train_of}
use Rattle.std.specs.Prelude.{Option, None, Some, Ok, slice_get}
use Rattle.std.proofs.lemmas.Option.{slice_get-get_or}
use Rattle.text.specs.Text.{lines_of, read_text}
use Rattle.text.specs.Answer.{plan_in}
use Rattle.text.specs.Private.{NextLine}
use Rattle.text.proofs.Places.{View, at_end, at_torn, at_line, view, line_next, past_shorter, torn_refused}
use Rattle.text_speeds.specs.Private.{TrainIn, train_of_entry, trains_held}
use Rattle.text_speeds.proofs.TrainLines.{trains_read, trains_in, text_trains}

-- one more at the end leaves the other places as they are
elsewhere : {A : Type 0} (xs : List A) (x : A) (n : ℕ) → (length xs ≡ n → ⊥) → slice_get (xs ++ (x ∷ [])) n ≡ slice_get xs n
elsewhere [] x zero h = absurd (h refl)
elsewhere [] x (suc n) h = refl
elsewhere (y ∷ xs) x zero h = refl
elsewhere (y ∷ xs) x (suc n) h = elsewhere xs x n (λ e. h (ap suc e))

-- and its own place has it
last_place : {A : Type 0} (xs : List A) (x : A) (n : ℕ) → length xs ≡ n → slice_get (xs ++ (x ∷ [])) n ≡ Some x
last_place xs x n e = slice_get-get_or (xs ++ (x ∷ [])) n x (omega (arith, e, length-append xs (x ∷ []))) ∙ ap Some (get_or_at xs x [] x n e)

-- the lines passed: the trains seen, with those still to come, are all. `few` keeps the loop's sum from wrapping
pub record Passed (text : List ℕ) (place : ℕ) (rest : List ℕ) (total : ℕ) (train : Option Train) : Type 0 where
  pub seen : List Train
  pub few : total + length rest ≤ length text
  pub whole : trains_in text ≡ seen ++ trains_read (lines_of rest)
  pub count : total ≡ length seen
  pub placed : train ≡ slice_get seen place

-- no line feed ends the first line: such a text is not accepted
pub passed_torn : (text : List ℕ) (place : ℕ) → past 10 text ≡ None → TrainIn text place (0, None)
passed_torn text place e = record { total = λ ok. absurd (torn_refused text e ok); train = λ ok. absurd (torn_refused text e ok) }

pub passed_first : (text : List ℕ) (place : ℕ) {rest : List ℕ} → past 10 text ≡ Some rest → Passed text place rest 0 None
unfolding trains_in
passed_first text place q =
    record { seen = []; few = omega (arith, past_shorter 10 text q); whole = rw q; count = refl; placed = refl }

module _ {text : List ℕ} {place : ℕ} {rest : List ℕ} {total : ℕ} {train : Option Train} (p : Passed text place rest total train) where
  -- where no line feed ends the line, no train is left
  module _ (e : past 10 rest ≡ None) where
    none_left : trains_read (lines_of rest) ≡ []
    unfolding trains_read
    none_left = go (view rest)
      where
        go : View rest → trains_read (lines_of rest) ≡ []
        go (at_end m q) = rw q
        go (at_torn m q) = rw q
        go (at_line next m q) = let z : ◌≡◌ {A = Option (List ℕ)} None (Some next) = sym e ∙ m in cc

    all_seen : (read_text ours text).check ≡ Ok tt → p.seen ≡ trains_held (plan_in text)
    all_seen ok = sym (text_trains text ok ∙ p.whole ∙ rw none_left (append-nil p.seen))

    pub passed_all : TrainIn text place (total, train)
    passed_all =
        record {
          total = λ ok. p.count ∙ ap length (all_seen ok) ∙ length-map (plan_in text).entries train_of_entry;
          train = λ ok. p.placed ∙ ap (λ (ts : List Train). slice_get ts place) (all_seen ok);
        }

  -- else the line is passed
  module _ {line next : List ℕ} (q : (line ≡ until 10 rest) × (past 10 rest ≡ Some next)) where
    here : NextLine rest line next
    here = line_next rest q

    pub passed_other : train_of line ≡ None → Passed text place next total train
    unfolding trains_read
    passed_other e =
        record { seen = p.seen; few = omega (arith, p.few, here.ahead); whole = p.whole ∙ rw (here.is, e); count = p.count; placed = p.placed }

    module _ {t : Train} (e : train_of line ≡ Some t) where
      passed_one : {new : Option Train} → new ≡ slice_get (p.seen ++ (t ∷ [])) place → Passed text place next (total + 1) new
      unfolding trains_read
      passed_one f =
          record {
            seen = p.seen ++ (t ∷ []);
            few = omega (arith, p.few, here.ahead);
            whole = p.whole ∙ rw (here.is, e) (sym (append_assoc p.seen (t ∷ []) _));
            count = omega (arith, p.count, length-append p.seen (t ∷ []));
            placed = f;
          }

      pub passed_asked : total ≡ place → Passed text place next (total + 1) (Some t)
      passed_asked f = passed_one (sym (last_place p.seen t place (sym p.count ∙ f)))

      pub passed_train : (total ≡ place → ⊥) → Passed text place next (total + 1) train
      passed_train f = passed_one (p.placed ∙ sym (elsewhere p.seen t place (λ g. f (p.count ∙ g))))
