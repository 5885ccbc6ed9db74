-- A plan as a list of additions: the plan that additions have made lists those that were accepted, so a study is the one of its own segments and entries.
-- Assumes nothing.
use mathlib.Core.Path.{◌≡◌, refl, sym, ap, ◌∙◌}
use mathlib.Core.Bool.{Bool, true, false, cond}
use mathlib.Core.List.{List, [], ◌∷◌, ◌++◌, append_assoc, append-nil}
use Prim.Native.Nat.{ℕ, ◌+◌, ◌-◌, ◌≤◌}
use native.Mathlib.Omega.{arith}
use borrow.Author.Tests.{eq-eqb, ne_eqb}
use lib.Dec.{eqb}
use lib.ListN.{length}
use Rattle.figures.specs.declared.Segment.{Segment}
use Rattle.study.specs.declared.Entry.{Entry}
use Rattle.study.specs.Plan.{Plan, empty_plan}
use Rattle.study.specs.Add.{Limits}
use Rattle.study.specs.Run.{Addition, segment, train, run, kept, extend, extend_all, accepted, trains_of, listed_from, listed}
use Rattle.study.proofs.Additions.{train_taken}
use Rattle.study.proofs.Plans.{Each, none, next, EntryHeld, PlanHeld, answer_to, accepted_only, extend-held, refused_stays, by_one, plan_is_run}
use Rattle.study.proofs.Runs.{run-accepted}
use Rattle.std.specs.Prelude.{Ok}

-- ---- the trains of one segment: none past the last, and one more of its own

trains_none : (k : ℕ) (ss : List Segment) → length ss ≤ k → {es : List Entry} → Each (EntryHeld ss) es → trains_of k es ≡ []
unfolding trains_of
trains_none k ss h none = refl
trains_none k ss h (next {x = e} held rest) = rw (ne_eqb e.segment k (λ q. omega (arith, held.segment))) (trains_none k ss h rest)

trains_other : (k : ℕ) (e : Entry) → (e.segment ≡ k → ⊥) → (es : List Entry) → trains_of k (es ++ (e ∷ [])) ≡ trains_of k es
unfolding trains_of
trains_other k e n [] = rw (ne_eqb e.segment k n)
trains_other k e n (x ∷ es) = rw (trains_other k e n es)

cond_append : (b : Bool) (a : Addition) (xs ys : List Addition) → cond b (a ∷ (xs ++ ys)) (xs ++ ys) ≡ cond b (a ∷ xs) xs ++ ys
cond_append true a xs ys = refl
cond_append false a xs ys = refl

trains_own : (k : ℕ) (e : Entry) → e.segment ≡ k → (es : List Entry) → trains_of k (es ++ (e ∷ [])) ≡ trains_of k es ++ (train e.train ∷ [])
unfolding trains_of
trains_own k e q [] = rw (eq-eqb e.segment k q)
trains_own k e q (x ∷ es) = rw (trains_own k e q es) (cond_append (eqb x.segment k) (train x.train) (trains_of k es) (train e.train ∷ []))

-- ---- one more segment, one more entry

list_segment : (s : Segment) (k : ℕ) (ss : List Segment) (es : List Entry) → trains_of (k + length ss) es ≡ [] → listed_from k (ss ++ (s ∷ [])) es ≡ listed_from k ss es ++ (segment s ∷ [])
unfolding listed_from
list_segment s k [] es q =
    let w : k ≡ k + length {A = Segment} [] = omega arith in
    rw (ap (λ (n : ℕ). trains_of n es) w ∙ q)
list_segment s k (x ∷ ss) es q =
    let w : k + 1 + length ss ≡ k + length (x ∷ ss) = omega arith in
    rw (list_segment s (k + 1) ss es (ap (λ (n : ℕ). trains_of n es) w ∙ q), append_assoc)

list_train : (e : Entry) (k : ℕ) (x : Segment) (ss : List Segment) (es : List Entry) → e.segment ≡ k + length ss
    → listed_from k (x ∷ ss) (es ++ (e ∷ [])) ≡ listed_from k (x ∷ ss) es ++ (train e.train ∷ [])
unfolding listed_from
list_train e k x [] es q = rw (trains_own k e (omega arith) es) (simp append-nil)
list_train e k x (y ∷ ss) es q =
    rw (trains_other k e (λ w. omega arith) es, list_train e (k + 1) y ss es (omega arith)) (simp append_assoc)

list_last : (e : Entry) (ss : List Segment) (es : List Entry) → (length ss ≡ 0 → ⊥) → e.segment ≡ length ss - 1
    → listed_from 0 ss (es ++ (e ∷ [])) ≡ listed_from 0 ss es ++ (train e.train ∷ [])
list_last e [] es some q = absurd (some refl)
list_last e (x ∷ ss) es some q = list_train e 0 x ss es (omega arith)

-- ---- a plan that has accepted one more

module _ (l : Limits) (p : Plan) (held : PlanHeld l p) where
  listed_segment : (s : Segment) → listed (record { segments = p.segments ++ (s ∷ []); entries = p.entries }) ≡ listed p ++ (segment s ∷ [])
  unfolding listed
  listed_segment s = list_segment s 0 p.segments p.entries (trains_none (0 + length p.segments) p.segments (omega arith) held.entries)

  listed_train : (e : Entry) → (length p.segments ≡ 0 → ⊥) → e.segment ≡ length p.segments - 1
      → listed (record { segments = p.segments; entries = p.entries ++ (e ∷ []) }) ≡ listed p ++ (train e.train ∷ [])
  unfolding listed
  listed_train e some q = list_last e p.segments p.entries some q

  listed_kept : (a : Addition) → answer_to l p a ≡ Ok tt → listed (extend l p a) ≡ listed p ++ (a ∷ [])
  unfolding extend answer_to kept
  listed_kept (segment s) e = rw e (listed_segment s)
  listed_kept (train t) e = rw e (listed_train (record { segment = length p.segments - 1; train = t }) (train_taken l _ _ t e).some refl)

-- the additions accepted follow those that the plan lists
pub listed_all : (l : Limits) (additions : List Addition) (p : Plan) → PlanHeld l p → listed (extend_all l p additions) ≡ listed p ++ accepted_only l p additions
unfolding extend_all accepted_only
listed_all l [] p held = sym (append-nil (listed p))
listed_all l (a ∷ rest) p held =
    let q = extend l p a in
    listed_all l rest q (extend-held l p held a)
    ∙ by_one (λ (xs : List Addition). listed q ++ accepted_only l q rest ≡ listed p ++ xs) (answer_to l p a) a (accepted_only l q rest)
    (λ e. rw (listed_kept l p held a e) (append_assoc (listed p) (a ∷ []) (accepted_only l q rest)))
    (λ r e. ap (λ (x : Plan). listed x ++ accepted_only l q rest) (refused_stays l p a r e))

pub listed-accepted : (l : Limits) (additions : List Addition) → listed (accepted l additions) ≡ accepted_only l empty_plan additions
unfolding accepted listed listed_from
listed-accepted l additions = listed_all l additions empty_plan (record { count = omega arith; total = omega arith; segments = none; entries = none })

-- ---- a study runs by those that it accepts

-- a study that additions made is the one of its own segments and entries
pub run-listed : (l : Limits) (additions : List Addition) → run l (listed (run l additions)) ≡ run l additions
run-listed l additions =
    ap (λ (p : Plan). run l (listed p)) (run-accepted l additions)
    ∙ ap (run l) (listed-accepted l additions)
    ∙ run-accepted l (accepted_only l empty_plan additions)
    ∙ plan_is_run l additions
    ∙ sym (run-accepted l additions)
