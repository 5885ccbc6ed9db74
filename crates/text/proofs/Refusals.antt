-- No text is refused by 20 or more: contents that are in range leave room for every line that they announce.
-- Assumes nothing.
use mathlib.Core.Path.{◌≡◌, refl, sym, ap, ◌∙◌}
use Prim.Native.Nat.{ℕ, zero, suc, ◌+◌, ◌≤◌, ◌<◌, ◌-◌}
use mathlib.Core.List.{List, [], ◌∷◌, ◌++◌}
use mathlib.Core.Bool.{Bool, true, false, cond, ◌&&◌, true≢false}
use native.Mathlib.Omega.{arith}
use lib.ListN.{length, length-append}
use lib.Dec.{leb}
use lib.IntN.{ℤ, pos, negsuc}
use borrow.Author.Tests.{ne_eqb, lt-leb, leb-true}
use Rattle.figures.specs.declared.Segment.{Segment}
use Rattle.figures.specs.declared.Train.{Train}
use Rattle.figures.specs.declared.Refusal.{Refusal}
use Rattle.figures.specs.declared.Refusal.TheVariants as R
use Rattle.figures.specs.Refusal.{number_of, check_number, unless, first_refused, Check}
use Rattle.figures.specs.Rules.{train_check, distance_kept, heights_kept, soft_kept, angles_kept, screen_kept, ranges_then, readings_kept, row_kept, speed_kept, vehicles_kept, trains_kept}
use Rattle.figures.proofs.Kept.{refused_not}
use Rattle.propagation.specs.Check.{segment_check}
use Rattle.propagation.specs.Screen.{shadow_kept}
use Rattle.study.specs.declared.Entry.{Entry}
use Rattle.study.specs.Plan.{Plan, empty_plan}
use Rattle.study.specs.Add.{Limits, Added, segment_limit, segment_answer, train_limit, train_answer, with_segment, with_train, answer, add_segment, add_train}
use Rattle.lines.specs.Numbers.{front, numbers_of}
use Rattle.std.specs.Prelude.{Option, None, Some, Result, Ok, Err, sum}
use Rattle.std.proofs.lemmas.List.Sums.{sum_by-cons}
use Rattle.lines.specs.Lines.{segment_of, train_of}
use Rattle.lines.specs.Contents.{is_count, counts_in, between, in_all, contents_in, contents_of}
use Rattle.text.specs.Text.{Reading, Line, ended, unended, lines_of, Kind, segment_kind, train_kind, trains, kinds_of, refused_addition, segment_adds, train_adds, add_line, refused_at, after, read_lines, read_body, read_from, read_text}

-- accepted, or refused by a number up to 13
abbrev Own : Check → Type 0
Own c = check_number c ≤ 13

unless_own : (kept : Bool) (r : Refusal) (rest : Check) → number_of r ≤ 13 → Own rest → Own (unless kept r rest)
unfolding unless check_number
unless_own true r rest h o = o
unless_own false r rest h o = h

segment_own : (s : Segment) → Own (segment_check s)
unfolding segment_check ranges_then number_of check_number
segment_own s =
    unless_own (distance_kept s) R.Distance _ (omega arith) (unless_own (heights_kept s) R.Height _ (omega arith) (unless_own (soft_kept s) R.Ground _ (omega arith)
    (unless_own (angles_kept s) R.Angle _ (omega arith) (unless_own (screen_kept s) R.Screen _ (omega arith) (unless_own (shadow_kept s) R.Shadow _ (omega arith)
    (unless_own (readings_kept s) R.Reading _ (omega arith) (omega arith)))))))

train_own : (t : Train) → Own (train_check t)
unfolding train_check number_of check_number
train_own t =
    unless_own (row_kept t) R.Row _ (omega arith) (unless_own (speed_kept t) R.Speed _ (omega arith)
    (unless_own (vehicles_kept t) R.Vehicles _ (omega arith) (unless_own (trains_kept t) R.Trains _ (omega arith) (omega arith))))

-- how many lines of each kind are to come, and that a train's line has a segment before it
abbrev pub segments_in : List Kind → ℕ
segments_in [] = 0
segments_in (segment_kind ∷ ps) = suc (segments_in ps)
segments_in (train_kind ∷ ps) = segments_in ps

abbrev pub trains_in : List Kind → ℕ
trains_in [] = 0
trains_in (segment_kind ∷ ps) = trains_in ps
trains_in (train_kind ∷ ps) = suc (trains_in ps)

abbrev Led : ℕ → List Kind → Type 0
Led count [] = Unit {0}
Led count (segment_kind ∷ ps) = Unit {0}
Led count (train_kind ∷ ps) = 0 < count

led : (count : ℕ) (ps : List Kind) → 0 < count → Led count ps
led count [] h = tt
led count (segment_kind ∷ ps) h = tt
led count (train_kind ∷ ps) h = h

-- room for the lines to come
record Room (l : Limits) (st : Plan) (ps : List Kind) : Type 0 where
  segments : (length st.segments) + segments_in ps ≤ l.segments
  entries : (length st.entries) + trains_in ps ≤ l.entries
  begun : Led (length st.segments) ps

-- an addition's answer, and the room after it where it is accepted
abbrev Fine : Limits → List Kind → Added → Type 0
Fine l ps a = Own a.check × (a.check ≡ Ok tt → Room l a.study ps)

module _ (l : Limits) (st : Plan) (ps : List Kind) where
  answer_fine : (c : Check) (new : Plan) → Own c → Room l new ps → Fine l ps (answer c st new)
  unfolding answer
  answer_fine (Ok _) new o room = (o, λ e. room)
  answer_fine (Err r) new o room = (o, λ e. refused_not e)

  malformed_fine : Fine l ps (refused_addition st R.Form)
  unfolding check_number number_of
  malformed_fine = (omega arith, λ e. refused_not e)

  segment_fine : Room l st (segment_kind ∷ ps) → (s : Segment) → Fine l ps (add_segment l st s)
  unfolding add_segment segment_answer segment_limit unless first_refused
  segment_fine h s =
      rw (lt-leb l.segments (length st.segments) (omega (arith, h.segments)))
      (answer_fine (segment_check s) (with_segment st s) (segment_own s)
      (record { segments = omega (arith, h.segments, length-append st.segments (s ∷ [])); entries = h.entries; begun = led (length (st.segments ++ (s ∷ []))) ps (omega (arith, length-append st.segments (s ∷ []))) }))

  train_fine : Room l st (train_kind ∷ ps) → (t : Train) → Fine l ps (add_train l st t)
  unfolding add_train train_answer train_limit unless first_refused
  train_fine h t =
      rw (ne_eqb (length st.segments) 0 (omega (arith, h.begun)), lt-leb l.entries (length st.entries) (omega (arith, h.entries)))
      (answer_fine (train_check t) (with_train st t) (train_own t)
      (record { segments = h.segments; entries = omega (arith, h.entries, length-append {A = Entry} st.entries (record { segment = length st.segments - 1; train = t } ∷ [])); begun = led (length st.segments) ps h.begun }))

line_fine : (l : Limits) (p : Kind) (st : Plan) (ps : List Kind) (x : Line) → Room l st (p ∷ ps) → Fine l ps (add_line l p st x)
unfolding add_line
line_fine l p st ps unended h = malformed_fine l st ps
line_fine l segment_kind st ps (ended line) h = go (segment_of line)
  where
    go : (r : Option Segment) → Fine l ps (segment_adds l st r)
    go None = malformed_fine l st ps
    go (Some s) = segment_fine l st ps h s
line_fine l train_kind st ps (ended line) h = go (train_of line)
  where
    go : (r : Option Train) → Fine l ps (train_adds l st r)
    go None = malformed_fine l st ps
    go (Some t) = train_fine l st ps h t

after_own : (c : Check) (k : ℕ) (rest : Reading) → Own c → (c ≡ Ok tt → Own rest.check) → Own (after c k rest).check
after_own (Ok _) k rest o f = f refl
after_own (Err r) k rest o f = o

lines_own : (l : Limits) (st : Plan) (k : ℕ) (ps : List Kind) (xs : List Line) → Room l st ps → Own (read_lines l st k ps xs).check
unfolding read_lines check_number number_of
lines_own l st k [] [] h = omega arith
lines_own l st k [] (x ∷ xs) h = omega arith
lines_own l st k (p ∷ ps) [] h = omega arith
lines_own l st k (p ∷ ps) (x ∷ xs) h =
    let a = add_line l p st x in
    let w = line_fine l p st ps x h in
    after_own a.check k (read_lines l a.study (k + 1) ps xs) w.0 (λ e. lines_own l a.study (k + 1) ps xs (w.1 e))

-- ---- the contents leave room

trains_segments : (n : ℕ) (ps : List Kind) → segments_in (trains n ps) ≡ segments_in ps
unfolding trains
trains_segments zero ps = refl
trains_segments (suc n) ps = trains_segments n ps

trains-trains : (n : ℕ) (ps : List Kind) → trains_in (trains n ps) ≡ n + trains_in ps
unfolding trains
trains-trains zero ps = omega arith
trains-trains (suc n) ps = ap suc (trains-trains n ps) ∙ omega arith

kinds_led : (cs : List ℕ) → Led 0 (kinds_of cs)
unfolding kinds_of
kinds_led [] = tt
kinds_led (c ∷ cs) = tt

pub kinds_segments : (cs : List ℕ) → segments_in (kinds_of cs) ≡ length cs
unfolding kinds_of
kinds_segments [] = refl
kinds_segments (c ∷ cs) = ap suc (trains_segments c (kinds_of cs) ∙ kinds_segments cs)

pub kinds_trains : (cs : List ℕ) → trains_in (kinds_of cs) ≡ sum cs
unfolding kinds_of
kinds_trains [] = refl
kinds_trains (c ∷ cs) = trains-trains c (kinds_of cs) ∙ ap (λ (n : ℕ). c + n) (kinds_trains cs) ∙ sym (sum_by-cons (λ (x : ℕ). x) c cs)

-- as many counts as there are numbers
abbrev Long : ℕ → Option (List ℕ) → Type 0
Long n None = Unit {0}
Long n (Some cs) = length cs ≡ n

front_long : (n c : ℕ) (o : Option (List ℕ)) → Long n o → Long (suc n) (front c o)
unfolding front
front_long n c None h = tt
front_long n c (Some cs) h = ap suc h

counts_long : (most : ℕ) (vs : List ℤ) → Long (length vs) (counts_in most vs)
unfolding counts_in
counts_long most [] = refl
counts_long most (negsuc c ∷ vs) = tt
counts_long most (pos c ∷ vs) = go (leb c most) (front_long (length vs) c (counts_in most vs) (counts_long most vs))
  where
    go : (t : Bool) → Long (suc (length vs)) (front c (counts_in most vs)) → Long (suc (length vs)) (cond t (front c (counts_in most vs)) None)
    go true h = h
    go false h = tt

-- what the contents give
abbrev pub Given : Limits → Result (List ℕ) Refusal → Type 0
Given l (Err r) = number_of r ≤ 13
Given l (Ok cs) = (length cs ≤ l.segments) × (sum cs ≤ l.entries)

within : (low high n : ℕ) → between low high n ≡ true → n ≤ high
within low high n e = leb-true n high (right (leb low n) (leb n high) e)
  where
    right : (a b : Bool) → (a && b) ≡ true → b ≡ true
    right true b h = h
    right false b h = absurd (true≢false (sym h))

module _ (l : Limits) where
  in_all_given : (n : ℕ) → n ≤ l.segments → (o : Option (List ℕ)) → Long n o → Given l (in_all l o)
  unfolding number_of
  in_all_given n h None q = omega arith
  in_all_given n h (Some cs) q = go (between 1 l.entries (sum cs)) refl
    where
      go : (t : Bool) → between 1 l.entries (sum cs) ≡ t → Given l (cond t (Ok cs) (Err R.Contents))
      go true e = (omega arith, within 1 l.entries (sum cs) e)
      go false e = omega arith

  pub contents_given : (o : Option (List ℤ)) → Given l (contents_in l o)
  unfolding number_of
  contents_given None = omega arith
  contents_given (Some []) = omega arith
  contents_given (Some (v ∷ vs)) = go (is_count v (length vs)) (between 1 l.segments (length vs)) refl
    where
      go : (s t : Bool) → between 1 l.segments (length vs) ≡ t
          → Given l (cond s (cond t (in_all l (counts_in l.entries vs)) (Err R.Contents)) (Err R.Form))
      go true true e = in_all_given (length vs) (within 1 l.segments (length vs) e) (counts_in l.entries vs) (counts_long l.entries vs)
      go true false e = omega arith
      go false t e = omega arith

  body_own : (r : Result (List ℕ) Refusal) (xs : List Line) → Given l r → Own (read_body l r xs).check
  unfolding check_number
  body_own (Err r) xs g = g
  body_own (Ok cs) xs g =
      lines_own l empty_plan 2 (kinds_of cs) xs
      (record { segments = omega (arith, kinds_segments cs, g.0); entries = omega (arith, kinds_trains cs, g.1); begun = kinds_led cs })

  from_own : (xs : List Line) → Own (read_from l xs).check
  unfolding check_number number_of contents_of
  from_own [] = omega arith
  from_own (unended ∷ xs) = omega arith
  from_own (ended line ∷ xs) = body_own (contents_of l line) xs (contents_given (numbers_of line))

  -- no text is turned back by the study's condition: its number is a figure's, 12 or 13
  pub text_refusal_is_own : (text : List ℕ) → check_number (read_text l text).check ≤ 13
  unfolding read_text check_number number_of
  text_refusal_is_own text = go (leb (length text) 16384)
    where
      go : (t : Bool) → Own (cond t (read_from l (lines_of text)) (refused_at R.Form 0)).check
      go true = from_own (lines_of text)
      go false = omega arith
