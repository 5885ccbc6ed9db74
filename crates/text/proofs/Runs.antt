-- Every text's study is a run of additions: of its lines' additions in order where it is accepted, of none where it is refused. So what holds of every run holds of it.
-- Assumes nothing.
use mathlib.Core.Path.{◌≡◌, refl, sym, ap, ◌∙◌}
use Prim.Native.Nat.{ℕ, ◌+◌}
use mathlib.Core.List.{List, [], ◌∷◌, ◌++◌}
use mathlib.Core.Bool.{Bool, true, false, cond}
use lib.ListN.{length}
use lib.Dec.{leb}
use Rattle.figures.specs.declared.Refusal.{Refusal}
use Rattle.figures.specs.declared.Refusal.TheVariants as R
use Rattle.figures.proofs.Kept.{refused_not}
use Rattle.study.specs.Plan.{Plan, empty_plan}
use Rattle.study.specs.Add.{Limits}
use Rattle.study.specs.Run.{Addition, step, run_from, run, listed}
use Rattle.study.proofs.Listed.{run-listed}
use Rattle.study.proofs.Plans.{PlanHeld, accepted-held}
use Rattle.study.proofs.Runs.{run-accepted}
use Rattle.figures.specs.declared.Segment.{Segment}
use Rattle.figures.specs.declared.Train.{Train}
use Rattle.std.specs.Prelude.{Option, None, Some, Result, Ok, Err}
use Rattle.lines.specs.Lines.{segment_of, train_of}
use Rattle.lines.specs.Contents.{contents_of}
use Rattle.text.specs.Text.{Reading, Line, ended, unended, lines_of, Kind, segment_kind, train_kind, kinds_of, segment_adds, train_adds, add_line, refused_at, after, read_lines, read_body, read_from, read_text}
use Rattle.text.specs.Additions.{segment_addition, train_addition, line_additions, lines_additions, body_additions, additions_in, additions_of}
use Rattle.figures.specs.Refusal.{Check}

-- an accepted line is its addition
line_runs : (l : Limits) (p : Kind) (st : Plan) (x : Line) (rest : List Addition) → (add_line l p st x).check ≡ Ok tt
    → run_from l (add_line l p st x).study rest ≡ run_from l st (line_additions p x ++ rest)
unfolding add_line line_additions run_from step
line_runs l p st unended rest e = refused_not e
line_runs l segment_kind st (ended line) rest e = go (segment_of line) e
  where
    go : (r : Option Segment) → (segment_adds l st r).check ≡ Ok tt → run_from l (segment_adds l st r).study rest ≡ run_from l st (segment_addition r ++ rest)
    go None f = refused_not f
    go (Some s) f = refl
line_runs l train_kind st (ended line) rest e = go (train_of line) e
  where
    go : (r : Option Train) → (train_adds l st r).check ≡ Ok tt → run_from l (train_adds l st r).study rest ≡ run_from l st (train_addition r ++ rest)
    go None f = refused_not f
    go (Some t) f = refl

-- what comes after an accepted line
pub after-accepted : (c : Check) (k : ℕ) (rest : Reading) → (after c k rest).check ≡ Ok tt → (c ≡ Ok tt) × (after c k rest ≡ rest)
after-accepted (Ok _) k rest e = (refl, refl)
after-accepted (Err r) k rest e = refused_not e

lines_run : (l : Limits) (st : Plan) (k : ℕ) (ps : List Kind) (xs : List Line) → (read_lines l st k ps xs).check ≡ Ok tt
    → (read_lines l st k ps xs).study ≡ run_from l st (lines_additions ps xs)
unfolding read_lines lines_additions run_from
lines_run l st k [] [] e = refl
lines_run l st k [] (x ∷ xs) e = refused_not e
lines_run l st k (p ∷ ps) [] e = refused_not e
lines_run l st k (p ∷ ps) (x ∷ xs) e =
    let a = add_line l p st x in
    let w = after-accepted a.check k (read_lines l a.study (k + 1) ps xs) e in
    ap (λ (r : Reading). r.study) w.1
    ∙ lines_run l a.study (k + 1) ps xs (sym (ap (λ (r : Reading). r.check) w.1) ∙ e)
    ∙ line_runs l p st x (lines_additions ps xs) w.0

body_runs : (l : Limits) (r : Result (List ℕ) Refusal) (xs : List Line) → (read_body l r xs).check ≡ Ok tt → (read_body l r xs).study ≡ run l (body_additions r xs)
unfolding run
body_runs l (Err r) xs e = refused_not e
body_runs l (Ok cs) xs e = lines_run l empty_plan 2 (kinds_of cs) xs e

from_runs : (l : Limits) (xs : List Line) → (read_from l xs).check ≡ Ok tt → (read_from l xs).study ≡ run l (additions_in l xs)
from_runs l [] e = refused_not e
from_runs l (unended ∷ xs) e = refused_not e
from_runs l (ended line ∷ xs) e = body_runs l (contents_of l line) xs e

-- an accepted text's study is that of its lines' additions, in order
pub accepted_text_is_run : (l : Limits) (text : List ℕ) → (read_text l text).check ≡ Ok tt → (read_text l text).study ≡ run l (additions_of l text)
unfolding read_text additions_of
accepted_text_is_run l text e = go (leb (length text) 16384) e
  where
    go : (t : Bool) → (cond t (read_from l (lines_of text)) (refused_at R.Form 0)).check ≡ Ok tt
        → (cond t (read_from l (lines_of text)) (refused_at R.Form 0)).study ≡ run l (additions_in l (lines_of text))
    go true f = from_runs l (lines_of text) f
    go false f = refused_not f

-- an accepted text's line is 0
lines_line : (l : Limits) (st : Plan) (k : ℕ) (ps : List Kind) (xs : List Line) → (read_lines l st k ps xs).check ≡ Ok tt → (read_lines l st k ps xs).line ≡ 0
unfolding read_lines
lines_line l st k [] [] e = refl
lines_line l st k [] (x ∷ xs) e = refused_not e
lines_line l st k (p ∷ ps) [] e = refused_not e
lines_line l st k (p ∷ ps) (x ∷ xs) e =
    let a = add_line l p st x in
    let w = after-accepted a.check k (read_lines l a.study (k + 1) ps xs) e in
    ap (λ (r : Reading). r.line) w.1 ∙ lines_line l a.study (k + 1) ps xs (sym (ap (λ (r : Reading). r.check) w.1) ∙ e)

body_line : (l : Limits) (r : Result (List ℕ) Refusal) (xs : List Line) → (read_body l r xs).check ≡ Ok tt → (read_body l r xs).line ≡ 0
body_line l (Err r) xs e = refused_not e
body_line l (Ok cs) xs e = lines_line l empty_plan 2 (kinds_of cs) xs e

from_line : (l : Limits) (xs : List Line) → (read_from l xs).check ≡ Ok tt → (read_from l xs).line ≡ 0
from_line l [] e = refused_not e
from_line l (unended ∷ xs) e = refused_not e
from_line l (ended line ∷ xs) e = body_line l (contents_of l line) xs e

pub accepted_line : (l : Limits) (text : List ℕ) → (read_text l text).check ≡ Ok tt → (read_text l text).line ≡ 0
unfolding read_text
accepted_line l text e = go (leb (length text) 16384) e
  where
    go : (t : Bool) → (cond t (read_from l (lines_of text)) (refused_at R.Form 0)).check ≡ Ok tt → (cond t (read_from l (lines_of text)) (refused_at R.Form 0)).line ≡ 0
    go true f = from_line l (lines_of text) f
    go false f = refused_not f

-- a refused text gives the empty study
after_refused : (c : Check) (k : ℕ) (rest : Reading) (f : Refusal) → (rest.check ≡ Err f → rest.study ≡ empty_plan)
    → (after c k rest).check ≡ Err f → (after c k rest).study ≡ empty_plan
after_refused (Ok _) k rest f h e = h e
after_refused (Err r) k rest f h e = refl

lines_refused : (l : Limits) (st : Plan) (k : ℕ) (ps : List Kind) (xs : List Line) (f : Refusal) → (read_lines l st k ps xs).check ≡ Err f
    → (read_lines l st k ps xs).study ≡ empty_plan
unfolding read_lines
lines_refused l st k [] [] f e = refused_not (sym e)
lines_refused l st k [] (x ∷ xs) f e = refl
lines_refused l st k (p ∷ ps) [] f e = refl
lines_refused l st k (p ∷ ps) (x ∷ xs) f e =
    let a = add_line l p st x in
    after_refused a.check k (read_lines l a.study (k + 1) ps xs) f (lines_refused l a.study (k + 1) ps xs f) e

body_refused : (l : Limits) (r : Result (List ℕ) Refusal) (xs : List Line) (f : Refusal) → (read_body l r xs).check ≡ Err f → (read_body l r xs).study ≡ empty_plan
body_refused l (Err r) xs f e = refl
body_refused l (Ok cs) xs f e = lines_refused l empty_plan 2 (kinds_of cs) xs f e

from_refused : (l : Limits) (xs : List Line) (f : Refusal) → (read_from l xs).check ≡ Err f → (read_from l xs).study ≡ empty_plan
from_refused l [] f e = refl
from_refused l (unended ∷ xs) f e = refl
from_refused l (ended line ∷ xs) f e = body_refused l (contents_of l line) xs f e

pub refused_text_is_empty : (l : Limits) (text : List ℕ) (f : Refusal) → (read_text l text).check ≡ Err f → (read_text l text).study ≡ empty_plan
unfolding read_text
refused_text_is_empty l text f e = go (leb (length text) 16384) e
  where
    go : (t : Bool) → (cond t (read_from l (lines_of text)) (refused_at R.Form 0)).check ≡ Err f
        → (cond t (read_from l (lines_of text)) (refused_at R.Form 0)).study ≡ empty_plan
    go true q = from_refused l (lines_of text) f q
    go false q = refl

-- whatever the text, its study is a run
pub text_is_run : (l : Limits) (text : List ℕ) → (additions : List Addition) × ((read_text l text).study ≡ run l additions)
unfolding run run_from
text_is_run l text = go (read_text l text).check refl
  where
    go : (c : Check) → (read_text l text).check ≡ c → (additions : List Addition) × ((read_text l text).study ≡ run l additions)
    go (Ok _) e = (additions_of l text, accepted_text_is_run l text e)
    go (Err f) e = ([], refused_text_is_empty l text f e)

-- so what its plan holds keeps its lines and the limits
pub text_held : (l : Limits) (text : List ℕ) → PlanHeld l (read_text l text).study
text_held l text = let r = text_is_run l text in rw (r.1, run-accepted l r.0) (accepted-held l r.0)

-- and listed and added again it is the same
pub text_listed : (l : Limits) (text : List ℕ) → run l (listed (read_text l text).study) ≡ (read_text l text).study
text_listed l text = let r = text_is_run l text in rw r.1 (run-listed l r.0)
