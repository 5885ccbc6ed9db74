-- The trains of an accepted text: those that its lines after the first are read as, for a segment's line is never read as a train.
-- Assumes nothing.
use mathlib.Core.Path.{◌≡◌, refl, sym, ap, ◌∙◌}
use mathlib.Core.Bool.{Bool, true, false, cond}
use mathlib.Core.List.{List, [], ◌∷◌, ◌++◌, map-append, append_assoc, append-nil}
use Rattle.std.specs.Prelude.{Option, None, Some, Result, Ok, Err}
use Rattle.figures.specs.declared.Refusal.{Refusal}
use Prim.Native.Nat.{ℕ, ◌+◌, ◌-◌}
use native.Mathlib.Omega.{arith}
use borrow.Author.Tests.{eqb-true}
use lib.Dec.{eqb, leb}
use lib.IntN.{ℤ}
use lib.ListN.{length}
use Rattle.figures.specs.declared.Segment.{Segment}
use Rattle.figures.specs.declared.Train.{Train}
use Rattle.figures.specs.declared.Refusal.TheVariants as R
use Rattle.figures.proofs.Kept.{refused_not}
use Rattle.study.specs.Plan.{Plan, empty_plan}
use Rattle.study.specs.Add.{ours, segment_answer, train_answer, with_segment, with_train, answer, add_segment, add_train}
use Rattle.study.proofs.Additions.{answer_check}
use Rattle.lines.specs.Bytes.{until, past}
use Rattle.lines.specs.Numbers.{numbers_of, exactly}
use Rattle.lines.specs.Lines.{segment_as, segment_of, train_as, train_of}
use Rattle.lines.specs.Contents.{contents_of}
use Rattle.text.specs.Text.{Reading, Line, ended, unended, lines_of, Kind, segment_kind, train_kind, kinds_of, segment_adds, train_adds, add_line, refused_at, read_lines, read_body, read_from, read_text}
use Rattle.text.specs.Answer.{plan_in}
use Rattle.text.proofs.Places.{View, at_end, at_torn, at_line, view}
use Rattle.text.proofs.Runs.{after-accepted}
use Rattle.text_speeds.specs.Private.{train_of_entry, trains_held}

-- ---- what lines are read as

abbrev train_part : Option Train → List Train
train_part None = []
train_part (Some t) = t ∷ []

abbrev line_trains : Line → List Train
line_trains unended = []
line_trains (ended line) = train_part (train_of line)

unfoldable pub trains_read : List Line → List Train
trains_read [] = []
trains_read (x ∷ xs) = line_trains x ++ trains_read xs

-- a segment's line has 15 numbers, a train's 5
segment_no_train : (line : List ℕ) {s : Segment} → segment_of line ≡ Some s → train_of line ≡ None
unfolding segment_of train_of exactly
segment_no_train line {s} e = go (numbers_of line) e
  where
    by : (vs : List ℤ) (b : Bool) → eqb (length vs) 15 ≡ b → segment_as (cond b (Some vs) None) ≡ Some s → train_as (cond (eqb (length vs) 5) (Some vs) None) ≡ None
    by vs true n q = rw (eqb-true (length vs) 15 n)
    by vs false n q = let z : ◌≡◌ {A = ℕ} 0 1 = cc in absurd (omega arith)

    go : (o : Option (List ℤ)) → segment_as (exactly 15 o) ≡ Some s → train_as (exactly 5 o) ≡ None
    go None q = refl
    go (Some vs) q = by vs (eqb (length vs) 15) refl q

-- ---- the trains of a study, with each line that is accepted

-- the new study holds these trains after those held before
abbrev Adds : Plan → Plan → List Train → Type 0
Adds st new more = trains_held new ≡ trains_held st ++ more

module _ (st : Plan) where
  segment_adds_lem : (s : Segment) → (add_segment ours st s).check ≡ Ok tt → Adds st (add_segment ours st s).study []
  unfolding add_segment answer
  segment_adds_lem s e =
      let taken : segment_answer ours (length st.segments) s ≡ Ok tt = sym (answer_check (segment_answer ours (length st.segments) s) st (with_segment st s)) ∙ e in
      rw taken (sym (append-nil (trains_held st)))

  train_adds_lem : (t : Train) → (add_train ours st t).check ≡ Ok tt → Adds st (add_train ours st t).study (t ∷ [])
  unfolding add_train answer
  train_adds_lem t e =
      let taken : train_answer ours (length st.segments) (length st.entries) t ≡ Ok tt = sym (answer_check (train_answer ours (length st.segments) (length st.entries) t) st (with_train st t)) ∙ e in
      rw taken (map-append train_of_entry st.entries (record { segment = length st.segments - 1; train = t } ∷ []))

  line_adds : (p : Kind) (x : Line) → (add_line ours p st x).check ≡ Ok tt → Adds st (add_line ours p st x).study (line_trains x)
  unfolding add_line
  line_adds p unended e = refused_not e
  line_adds segment_kind (ended line) e = go (segment_of line) refl e
    where
      go : (r : Option Segment) → segment_of line ≡ r → (segment_adds ours st r).check ≡ Ok tt → Adds st (segment_adds ours st r).study (train_part (train_of line))
      go None q f = refused_not f
      go (Some s) q f = rw (segment_no_train line q) (segment_adds_lem s f)
  line_adds train_kind (ended line) e = go (train_of line) e
    where
      go : (r : Option Train) → (train_adds ours st r).check ≡ Ok tt → Adds st (train_adds ours st r).study (train_part r)
      go None f = refused_not f
      go (Some t) f = train_adds_lem t f

lines_trains : (st : Plan) (k : ℕ) (ps : List Kind) (xs : List Line) → (read_lines ours st k ps xs).check ≡ Ok tt
    → trains_held (read_lines ours st k ps xs).study ≡ trains_held st ++ trains_read xs
unfolding read_lines trains_read
lines_trains st k [] [] e = sym (append-nil (trains_held st))
lines_trains st k [] (x ∷ xs) e = refused_not e
lines_trains st k (p ∷ ps) [] e = refused_not e
lines_trains st k (p ∷ ps) (x ∷ xs) e =
    let a = add_line ours p st x in
    let w = after-accepted a.check k (read_lines ours a.study (k + 1) ps xs) e in
    let one = line_adds st p x w.0 in
    ap (λ (r : Reading). trains_held r.study) w.1
    ∙ lines_trains a.study (k + 1) ps xs (sym (ap (λ (r : Reading). r.check) w.1) ∙ e)
    ∙ ap (λ (ts : List Train). ts ++ trains_read xs) one
    ∙ append_assoc (trains_held st) (line_trains x) (trains_read xs)

-- ---- the whole text

body_trains : (r : Result (List ℕ) Refusal) (xs : List Line) → (read_body ours r xs).check ≡ Ok tt → trains_held (read_body ours r xs).study ≡ trains_read xs
body_trains (Err r) xs e = refused_not e
body_trains (Ok cs) xs e = lines_trains empty_plan 2 (kinds_of cs) xs e

-- what the lines after the first are read as
abbrev pub trains_after : Option (List ℕ) → List Train
trains_after None = []
trains_after (Some rest) = trains_read (lines_of rest)

unfoldable pub trains_in : List ℕ → List Train
trains_in text = trains_after (past 10 text)

from_trains : (text : List ℕ) → View text → (read_from ours (lines_of text)).check ≡ Ok tt → trains_held (read_from ours (lines_of text)).study ≡ trains_in text
unfolding trains_in
from_trains text (at_end m q) e = refused_not (rw q at e)
from_trains text (at_torn m q) e = refused_not (rw q at e)
from_trains text (at_line rest m q) e = rw (q, m) (body_trains (contents_of ours (until 10 text)) (lines_of rest) (rw q at e))

pub text_trains : (text : List ℕ) → (read_text ours text).check ≡ Ok tt → trains_held (plan_in text) ≡ trains_in text
unfolding read_text
text_trains text e = go (leb (length text) 16384) e
  where
    go : (t : Bool) → let r = cond t (read_from ours (lines_of text)) (refused_at R.Form 0) in r.check ≡ Ok tt → trains_held r.study ≡ trains_in text
    go true f = from_trains text (view text) f
    go false f = refused_not f
