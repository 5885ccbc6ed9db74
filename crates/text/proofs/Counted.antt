-- An accepted text's study has as many segments and entries as the contents announce, and so at least one entry.
-- Assumes nothing.
use mathlib.Core.Path.{◌≡◌, refl, sym, ap, ◌∙◌, subst}
use Prim.Native.Nat.{ℕ, ◌+◌, ◌<◌, ◌-◌}
use mathlib.Core.List.{List, [], ◌∷◌}
use mathlib.Core.Bool.{Bool, true, false, cond, ◌&&◌}
use native.Mathlib.Omega.{arith}
use lib.ListN.{length-append, length}
use lib.Dec.{leb}
use lib.IntN.{ℤ}
use borrow.Author.Tests.{leb-true}
use Rattle.figures.specs.declared.Refusal.TheVariants as R
use Rattle.figures.proofs.Kept.{refused_not}
use Rattle.study.specs.declared.Entry.{Entry}
use Rattle.study.specs.Plan.{Plan, empty_plan}
use Rattle.study.specs.Add.{Limits, segment_answer, train_answer, with_segment, with_train, answer, add_segment, add_train}
use Rattle.study.specs.Run.{accepted}
use Rattle.study.proofs.Runs.{run-accepted}
use Rattle.lines.specs.Bytes.{until}
use Rattle.lines.specs.Numbers.{numbers_of}
use Rattle.figures.specs.declared.Segment.{Segment}
use Rattle.figures.specs.declared.Train.{Train}
use Rattle.figures.specs.declared.Refusal.{Refusal}
use Rattle.std.specs.Prelude.{Option, None, Some, Result, Ok, Err, sum}
use Rattle.lines.specs.Lines.{segment_of, train_of}
use Rattle.lines.specs.Contents.{is_count, counts_in, between, in_all, contents_in, contents_of}
use Rattle.text.specs.Text.{Reading, Line, ended, unended, lines_of, Kind, segment_kind, train_kind, kinds_of, segment_adds, train_adds, add_line, refused_at, read_lines, read_body, read_from, read_text}
use Rattle.text.specs.Additions.{additions_of}
use Rattle.text.proofs.Runs.{after-accepted, accepted_text_is_run}
use Rattle.text.proofs.Places.{View, at_end, at_torn, at_line, view}
use Rattle.text.proofs.Refusals.{segments_in, trains_in, kinds_segments, kinds_trains}
use Rattle.figures.specs.Refusal.{Check}

-- ---- a segment for each segment line, and an entry for each train line

-- with the lines that are still to come, as many of each
abbrev Ahead : Plan → List Kind → Plan → List Kind → Type 0
Ahead st ps new qs = (length new.segments + segments_in qs ≡ length st.segments + segments_in ps) × (length new.entries + trains_in qs ≡ length st.entries + trains_in ps)

accepted_new : (c : Check) (old new : Plan) → (answer c old new).check ≡ Ok tt → new ≡ (answer c old new).study
unfolding answer
accepted_new (Ok _) old new e = refl
accepted_new (Err r) old new e = refused_not e

line_ahead : (l : Limits) (p : Kind) (st : Plan) (x : Line) (ps : List Kind) → (add_line l p st x).check ≡ Ok tt → Ahead st (p ∷ ps) (add_line l p st x).study ps
unfolding add_line add_segment add_train
line_ahead l p st unended ps e = refused_not e
line_ahead l segment_kind st (ended line) ps e = go (segment_of line) e
  where
    go : (r : Option Segment) → (segment_adds l st r).check ≡ Ok tt → Ahead st (segment_kind ∷ ps) (segment_adds l st r).study ps
    go None f = refused_not f
    go (Some s) f = subst (λ (new : Plan). Ahead st (segment_kind ∷ ps) new ps) (accepted_new (segment_answer l (length st.segments) s) st (with_segment st s) f) (omega (arith, length-append st.segments (s ∷ [])), omega arith)
line_ahead l train_kind st (ended line) ps e = go (train_of line) e
  where
    go : (r : Option Train) → (train_adds l st r).check ≡ Ok tt → Ahead st (train_kind ∷ ps) (train_adds l st r).study ps
    go None f = refused_not f
    go (Some t) f = subst (λ (new : Plan). Ahead st (train_kind ∷ ps) new ps) (accepted_new (train_answer l (length st.segments) (length st.entries) t) st (with_train st t) f) (omega arith, omega (arith, length-append {A = Entry} st.entries (record { segment = length st.segments - 1; train = t } ∷ [])))

lines_ahead : (l : Limits) (st : Plan) (k : ℕ) (ps : List Kind) (xs : List Line) → (read_lines l st k ps xs).check ≡ Ok tt → Ahead st ps (read_lines l st k ps xs).study []
unfolding read_lines
lines_ahead l st k [] [] e = (refl, refl)
lines_ahead l st k [] (x ∷ xs) e = refused_not e
lines_ahead l st k (p ∷ ps) [] e = refused_not e
lines_ahead l st k (p ∷ ps) (x ∷ xs) e =
    let a = add_line l p st x in
    let w = after-accepted a.check k (read_lines l a.study (k + 1) ps xs) e in
    let one = line_ahead l p st x ps w.0 in
    let rest = lines_ahead l a.study (k + 1) ps xs (sym (ap (λ (r : Reading). r.check) w.1) ∙ e) in
    rw w.1 (rest.0 ∙ one.0, rest.1 ∙ one.1)

-- ---- the contents announce an entry

abbrev HasEntry : Result (List ℕ) Refusal → Type 0
HasEntry (Err r) = Unit {0}
HasEntry (Ok cs) = 0 < sum cs

-- so many segments and entries are what the contents announce
abbrev pub Announces : Result (List ℕ) Refusal → ℕ → ℕ → Type 0
Announces (Err r) segments entries = ⊥
Announces (Ok cs) segments entries = (0 < entries) × (segments ≡ length cs) × (entries ≡ sum cs)

some_entry : (r : Result (List ℕ) Refusal) (segments entries : ℕ) → Announces r segments entries → 0 < entries
some_entry (Err r) segments entries a = absurd a
some_entry (Ok cs) segments entries a = a.0

module _ (l : Limits) where
  in_all_some : (o : Option (List ℕ)) → HasEntry (in_all l o)
  in_all_some None = tt
  in_all_some (Some cs) = go (leb 1 (sum cs)) (leb (sum cs) l.entries) refl
    where
      go : (a b : Bool) → leb 1 (sum cs) ≡ a → HasEntry (cond (a && b) (Ok cs) (Err R.Contents))
      go true true e = leb-true 1 (sum cs) e
      go true false e = tt
      go false b e = tt

  contents_some : (o : Option (List ℤ)) → HasEntry (contents_in l o)
  contents_some None = tt
  contents_some (Some []) = tt
  contents_some (Some (v ∷ vs)) = go (is_count v (length vs)) (between 1 l.segments (length vs))
    where
      go : (s t : Bool) → HasEntry (cond s (cond t (in_all l (counts_in l.entries vs)) (Err R.Contents)) (Err R.Form))
      go true true = in_all_some (counts_in l.entries vs)
      go true false = tt
      go false t = tt

  -- ---- the whole text

  body_announces : (r : Result (List ℕ) Refusal) (xs : List Line) → HasEntry r → (read_body l r xs).check ≡ Ok tt → Announces r (length (read_body l r xs).study.segments) (length (read_body l r xs).study.entries)
  body_announces (Err r) xs h e = refused_not e
  body_announces (Ok cs) xs h e =
      let all = lines_ahead l empty_plan 2 (kinds_of cs) xs e in
      (omega (arith, all.1, kinds_trains cs), omega (arith, all.0, kinds_segments cs), omega (arith, all.1, kinds_trains cs))

  from_announces : (text : List ℕ) → View text → (read_from l (lines_of text)).check ≡ Ok tt
      → Announces (contents_of l (until 10 text)) (length (read_from l (lines_of text)).study.segments) (length (read_from l (lines_of text)).study.entries)
  unfolding contents_of
  from_announces text (at_end m q) e = refused_not (rw q at e)
  from_announces text (at_torn m q) e = refused_not (rw q at e)
  from_announces text (at_line rest m q) e = rw q (body_announces (contents_of l (until 10 text)) _ (contents_some (numbers_of (until 10 text))) (rw q at e))

  study_announced : (text : List ℕ) → (read_text l text).check ≡ Ok tt → Announces (contents_of l (until 10 text)) (length (read_text l text).study.segments) (length (read_text l text).study.entries)
  unfolding read_text
  study_announced text e = go (leb (length text) 16384) e
    where
      go : (t : Bool) → let r = cond t (read_from l (lines_of text)) (refused_at R.Form 0) in r.check ≡ Ok tt → Announces (contents_of l (until 10 text)) (length r.study.segments) (length r.study.entries)
      go true f = from_announces text (view text) f
      go false f = refused_not f

  -- its plan has as many segments and entries as its first line announces
  pub plan_announced : (text : List ℕ) → (read_text l text).check ≡ Ok tt → let plan = (read_text l text).study in Announces (contents_of l (until 10 text)) (length plan.segments) (length plan.entries)
  plan_announced text e = study_announced text e

  pub accepted_text_entry : (text : List ℕ) → (read_text l text).check ≡ Ok tt → 0 < length (read_text l text).study.entries
  accepted_text_entry text e = some_entry (contents_of l (until 10 text)) _ _ (plan_announced text e)

-- so the request for levels over an accepted text's study is never turned back by 23
pub accepted_text_has_entry : (l : Limits) (text : List ℕ) → (read_text l text).check ≡ Ok tt → 0 < length (accepted l (additions_of l text)).entries
accepted_text_has_entry l text e =
    subst (λ (plan : Plan). 0 < length plan.entries) ((accepted_text_is_run l text e) ∙ run-accepted l (additions_of l text)) (accepted_text_entry l text e)
