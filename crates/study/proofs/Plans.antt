-- The plan of a list of additions: what it holds keeps its lines, and the additions that are not refused make it by themselves.
-- Assumes nothing.
use mathlib.Core.Path.{◌≡◌, refl, ap, subst}
use mathlib.Core.List.{List, [], ◌∷◌, ◌++◌}
use Prim.Native.Nat.{ℕ, zero, suc, ◌+◌, ◌-◌, ◌≤◌, ◌<◌}
use native.Mathlib.Nat.{not-suc-le-zero, le_of_suc-le-suc}
use native.Mathlib.Omega.{arith}
use lib.ListN.{length, get_or, length-append}
use Rattle.figures.specs.declared.Segment.{Segment}
use Rattle.figures.specs.declared.Train.{Train}
use Rattle.figures.specs.declared.Refusal.{Refusal}
use Rattle.figures.specs.Rules.{train_check}
use Rattle.propagation.specs.Check.{segment_check}
use Rattle.study.specs.declared.Entry.{Entry}
use Rattle.study.specs.Plan.{Plan, empty_plan, segment_at, no_segment}
use Rattle.study.specs.Add.{Limits, segment_answer, train_answer}
use Rattle.study.specs.Run.{Addition, segment, train, kept, extend, extend_all, accepted}
use Rattle.study.proofs.Additions.{segment_taken, train_taken}
use Rattle.figures.specs.Refusal.{Check}
use Rattle.std.specs.Prelude.{Ok, Err}

-- ---- each element of a list

-- P holds of each element
pub data Each {A : Type 0} (P : A → Type 0) : List A → Type 0 where
  none : Each P []
  next : {x : A} {xs : List A} → P x → Each P xs → Each P (x ∷ xs)

module _ {A : Type 0} {P : A → Type 0} where
  each_append : {xs : List A} (x : A) → Each P xs → P x → Each P (xs ++ (x ∷ []))
  each_append x none p = next p none
  each_append x (next q rest) p = next q (each_append x rest p)

  pub each_at : {xs : List A} → Each P xs → (k : ℕ) (d : A) → k < length xs → P (get_or xs k d)
  each_at none k d h = absurd (not-suc-le-zero h)
  each_at (next p rest) zero d h = p
  each_at (next p rest) (suc k) d h = each_at rest k d (le_of_suc-le-suc h)

  pub each_map : {Q : A → Type 0} → ((x : A) → P x → Q x) → {xs : List A} → Each P xs → Each Q xs
  each_map f none = none
  each_map f (next {x} p rest) = next (f x p) (each_map f rest)

-- ---- what a plan holds

-- an entry that an addition has made: of one of the segments, with a train that keeps its lines
pub record EntryHeld (segments : List Segment) (e : Entry) : Type 0 where
  pub segment : e.segment < length segments
  pub train : train_check e.train ≡ Ok tt

-- a plan that additions have made
pub record PlanHeld (l : Limits) (plan : Plan) : Type 0 where
  pub count : length plan.segments ≤ l.segments
  pub total : length plan.entries ≤ l.entries
  pub segments : Each (λ (s : Segment). segment_check s ≡ Ok tt) plan.segments
  pub entries : Each (EntryHeld plan.segments) plan.entries

by_kept : (P : Plan → Type 0) (check : Check) (old new : Plan) → P old → (check ≡ Ok tt → P new) → P (kept check old new)
unfolding kept
by_kept P (Ok _) old new a b = b refl
by_kept P (Err r) old new a b = a

longer : {A : Type 0} (xs : List A) (x : A) → length (xs ++ (x ∷ [])) ≡ length xs + 1
longer xs x = length-append xs (x ∷ [])

module _ (l : Limits) (p : Plan) (held : PlanHeld l p) where
  segment_held : (s : Segment) → segment_answer l (length p.segments) s ≡ Ok tt → PlanHeld l (record { segments = p.segments ++ (s ∷ []); entries = p.entries })
  segment_held s e =
      let taken = segment_taken l (length p.segments) s e in
      let more = longer p.segments s in
      record {
        count = omega (arith, taken.room, more);
        total = held.total;
        segments = each_append s held.segments taken.kept;
        entries = each_map (λ x h. record { segment = omega (arith, h.segment, more); train = h.train }) held.entries;
      }

  train_held : (t : Train) → train_answer l (length p.segments) (length p.entries) t ≡ Ok tt
      → PlanHeld l (record { segments = p.segments; entries = p.entries ++ (record { segment = length p.segments - 1; train = t } ∷ []) })
  train_held t e =
      let taken = train_taken l (length p.segments) (length p.entries) t e in
      let entry : Entry = record { segment = length p.segments - 1; train = t } in
      record {
        count = held.count;
        total = omega (arith, taken.room, longer p.entries entry);
        segments = held.segments;
        entries = each_append entry held.entries (record { segment = omega (arith, taken.some); train = taken.kept });
      }

  pub extend-held : (a : Addition) → PlanHeld l (extend l p a)
  unfolding extend
  extend-held (segment s) = by_kept (PlanHeld l) (segment_answer l (length p.segments) s) p _ held (segment_held s)
  extend-held (train t) = by_kept (PlanHeld l) (train_answer l (length p.segments) (length p.entries) t) p _ held (train_held t)

all_held : (l : Limits) (p : Plan) → PlanHeld l p → (additions : List Addition) → PlanHeld l (extend_all l p additions)
unfolding extend_all
all_held l p held [] = held
all_held l p held (a ∷ rest) = all_held l (extend l p a) (extend-held l p held a) rest

-- every segment held is within its lines, every entry has one of them and a train within its lines, and the limits are kept
pub accepted-held : (l : Limits) (additions : List Addition) → PlanHeld l (accepted l additions)
unfolding accepted
accepted-held l additions = all_held l empty_plan (record { count = omega arith; total = omega arith; segments = none; entries = none }) additions

pub segment_kept : {l : Limits} (plan : Plan) → PlanHeld l plan → (k : ℕ) → k < length plan.segments → segment_check (segment_at plan k) ≡ Ok tt
segment_kept plan held k h = each_at held.segments k no_segment h

-- ---- the additions that are not refused

-- what a plan answers to an addition
unfoldable pub answer_to : Limits → Plan → Addition → Check
answer_to l p (segment s) = segment_answer l (length p.segments) s
answer_to l p (train t) = train_answer l (length p.segments) (length p.entries) t

unfoldable pub kept_one : Check → Addition → List Addition → List Addition
kept_one (Ok _) a rest = a ∷ rest
kept_one (Err r) a rest = rest

unfoldable pub accepted_only : Limits → Plan → List Addition → List Addition
accepted_only l p [] = []
accepted_only l p (a ∷ rest) = kept_one (answer_to l p a) a (accepted_only l (extend l p a) rest)

pub refused_stays : (l : Limits) (p : Plan) (a : Addition) (r : Refusal) → answer_to l p a ≡ Err r → extend l p a ≡ p
unfolding extend answer_to kept
refused_stays l p (segment s) r e = rw e
refused_stays l p (train t) r e = rw e

-- a statement of the additions kept of a list, from those of its two cases
pub by_one : (P : List Addition → Type 0) (check : Check) (a : Addition) (rest : List Addition) → (check ≡ Ok tt → P (a ∷ rest)) → ((r : Refusal) → check ≡ Err r → P rest) → P (kept_one check a rest)
unfolding kept_one
by_one P (Ok _) a rest f g = f refl
by_one P (Err r) a rest f g = g r refl

kept-extend : (l : Limits) (additions : List Addition) (p : Plan) → extend_all l p (accepted_only l p additions) ≡ extend_all l p additions
unfolding extend_all accepted_only
kept-extend l [] p = refl
kept-extend l (a ∷ rest) p =
    by_one (λ (xs : List Addition). extend_all l p xs ≡ extend_all l (extend l p a) rest) (answer_to l p a) a (accepted_only l (extend l p a) rest)
    (λ e. kept-extend l rest (extend l p a))
    (λ r e.
    subst (λ (q : Plan). extend_all l q (accepted_only l (extend l p a) rest) ≡ extend_all l (extend l p a) rest) (refused_stays l p a r e) (kept-extend l rest (extend l p a)))

-- they make the same plan: a plan counts as the list of its segments and entries
pub plan_is_run : (l : Limits) (additions : List Addition) → accepted l (accepted_only l empty_plan additions) ≡ accepted l additions
unfolding accepted
plan_is_run l additions = kept-extend l additions empty_plan

kept_again : (l : Limits) (additions : List Addition) (p : Plan) → accepted_only l p (accepted_only l p additions) ≡ accepted_only l p additions
unfolding accepted_only kept_one
kept_again l [] p = refl
kept_again l (a ∷ rest) p =
    by_one (λ (xs : List Addition). accepted_only l p xs ≡ xs) (answer_to l p a) a (accepted_only l (extend l p a) rest)
    (λ e. rw e (ap (λ (xs : List Addition). a ∷ xs) (kept_again l rest (extend l p a))))
    (λ r e.
    subst (λ (q : Plan). accepted_only l q (accepted_only l (extend l p a) rest) ≡ accepted_only l (extend l p a) rest) (refused_stays l p a r e) (kept_again l rest (extend l p a)))

-- and none of them is refused when they are added alone
pub none_refused : (l : Limits) (additions : List Addition) → accepted_only l empty_plan (accepted_only l empty_plan additions) ≡ accepted_only l empty_plan additions
none_refused l additions = kept_again l additions empty_plan
