-- What is left of a text: no line, bytes that no line feed ends, or a line; and what the reading answers then.
-- Assumes nothing.
use Rattle.std.proofs.Common.{◌≡◌, ℕ, suc, ◌<◌, Bool, true, false, cond, eqb, leb, Ok, List, [], ◌∷◌, length, Option, None, Some, sym, refl, ap, ◌∙◌, arith, eqb-true}
use borrow.Author.Tests.{eqb-false}
use Rattle.std.specs.Borrow.{Bor}
use Rattle.std.specs.Option.{MatchOption, ok_or}
use Rattle.std.specs.Result.{MatchResult}
use Rattle.figures.specs.declared.Refusal.TheVariants as R
use Rattle.figures.proofs.Kept.{refused_not}
use Rattle.study.specs.Add.{ours}
use Rattle.lines.specs.Bytes.{until, past, split}
use Rattle.lines.proofs.Bytes.{split_first}
use Rattle.text.specs.Text.{ended, unended, last_line, lines_in, lines_of, add_line, refused_at, read_from, read_text}
use Rattle.text.specs.Private.{NextLine, NoLine, first_adds}

last_torn : (u : List ℕ) → 0 < length u → last_line u ≡ unended ∷ []
last_torn [] h = absurd (omega arith)
last_torn (b ∷ bs) h = refl

lines_more : (u x : List ℕ) → lines_in (u ∷ split 10 x) ≡ ended u ∷ lines_in (split 10 x)
unfolding lines_in
lines_more u x = rw (split_first 10 x)

-- without a separator all is the first part
until_all : (sep : ℕ) (s : List ℕ) → past sep s ≡ None → until sep s ≡ s
unfolding until past
until_all sep [] e = refl
until_all sep (b ∷ bs) e = go (eqb b sep) (until_all sep bs) e
  where
    go : (t : Bool) → (past sep bs ≡ None → until sep bs ≡ bs) → cond t (Some bs) (past sep bs) ≡ None → cond t [] (b ∷ until sep bs) ≡ b ∷ bs
    go true f q = cc
    go false f q = ap {B = List ℕ} (λ r. b ∷ r) (f q)

pub past_shorter : (sep : ℕ) (s : List ℕ) {rest : List ℕ} → past sep s ≡ Some rest → length rest < length s
unfolding past
past_shorter sep [] e = cc
past_shorter sep (b ∷ bs) {rest} e = go (eqb b sep) (λ q. past_shorter sep bs q) e
  where
    go : (t : Bool) → (past sep bs ≡ Some rest → length rest < length bs) → cond t (Some bs) (past sep bs) ≡ Some rest → length rest < suc (length bs)
    go true f q = let z : bs ≡ rest = cc in omega (arith, ap length z)
    go false f q = omega (arith, f q)

pub data View (text : List ℕ) : Type 0 where
  at_end : length text ≡ 0 → lines_of text ≡ [] → View text
  at_torn : 0 < length text → lines_of text ≡ unended ∷ [] → View text
  at_line : (rest : List ℕ) → past 10 text ≡ Some rest → lines_of text ≡ ended (until 10 text) ∷ lines_of rest → View text

line_first : (text : List ℕ) {rest : List ℕ} → past 10 text ≡ Some rest → lines_of text ≡ ended (until 10 text) ∷ lines_of rest
unfolding lines_of
line_first text {rest} e = rw (split_first 10 text, e) (lines_more (until 10 text) rest)

line_torn : (text : List ℕ) → past 10 text ≡ None → 0 < length text → lines_of text ≡ unended ∷ []
unfolding lines_of lines_in
line_torn text e h = rw (split_first 10 text, e, until_all 10 text e) (last_torn text h)

empty_lines : lines_of [] ≡ []
unfolding lines_of lines_in split
empty_lines = refl

pub view : (text : List ℕ) → View text
view text = go (past 10 text) refl text refl
  where
    go : (o : Option (List ℕ)) → past 10 text ≡ o → (s : List ℕ) → text ≡ s → View text
    go (Some rest) e s q = at_line rest e (line_first text e)
    go None e [] q = rw q (at_end refl empty_lines)
    go None e (b ∷ bs) q = at_torn (omega (arith, ap length q)) (line_torn text e (omega (arith, ap length q)))

-- ---- the next line, as the text is split

pub line_next : (text : List ℕ) {line rest : List ℕ} → (line ≡ until 10 text) × (past 10 text ≡ Some rest) → NextLine text line rest
line_next text e = record { is = rw e.0 (line_first text e.1); ahead = past_shorter 10 text e.1 }

-- no line feed ends it
pub line_none : (text : List ℕ) → past 10 text ≡ None → false ≡ eqb (length text) 0 → NoLine text R.Form
unfolding first_adds add_line
line_none text e h =
    let some = eqb-false (length text) 0 (sym h) in
    let torn = line_torn text e (omega arith) in
    record { adds = λ kind st. rw torn; opens = rw torn }

pub nothing_next : (text : List ℕ) → true ≡ eqb (length text) 0 → NoLine text R.Contents
unfolding first_adds
nothing_next [] e = record { adds = λ kind st. rw empty_lines; opens = rw empty_lines }
nothing_next (b ∷ bs) e = let none = eqb-true (length (b ∷ bs)) 0 (sym e) in absurd (omega arith)

-- as `ok_or` gives it of the split
pub line_split : (text : List ℕ) → false ≡ eqb (length text) 0 → (o : Option (Bor (List ℕ) × Bor (List ℕ))) → MatchOption o (past 10 text ≡ None) (λ r. (r.0.now ≡ until 10 text) × (past 10 text ≡ Some r.1.now))
    → MatchResult (ok_or o R.Form) (λ r. NextLine text r.0.now r.1.now) (λ f. NoLine text f)
line_split text some None e = line_none text e some
line_split text some (Some r) e = line_next text e

-- an accepted text has a first line
pub torn_refused : (text : List ℕ) → past 10 text ≡ None → (read_text ours text).check ≡ Ok tt → ⊥
unfolding read_text
torn_refused text e ok = go (leb (length text) 16384) ok (view text)
  where
    go : (t : Bool) → (cond t (read_from ours (lines_of text)) (refused_at R.Form 0)).check ≡ Ok tt → View text → ⊥
    go false q v = refused_not q
    go true q (at_end m l) = refused_not (rw l at q)
    go true q (at_torn m l) = refused_not (rw l at q)
    go true q (at_line rest m l) = let z : ◌≡◌ {A = Option (List ℕ)} None (Some rest) = sym e ∙ m in cc
