-- What the second study lists, added to the first: nothing of it is refused where there is room, and the lists are joined.
-- Assumes nothing.
use mathlib.Core.Path.{◌≡◌, refl, ap, ◌∙◌, subst}
use mathlib.Core.List.{List, [], ◌∷◌, ◌++◌, map, append_assoc, append-nil, map-append}
use Prim.Native.Nat.{ℕ, ◌+◌, ◌-◌, ◌≤◌, ◌<◌}
use native.Mathlib.Omega.{arith}
use lib.ListN.{length, length-append, length-map}
use Rattle.figures.specs.declared.Segment.{Segment}
use Rattle.figures.specs.declared.Train.{Train}
use Rattle.figures.specs.Refusal.{first_refused, Check}
use Rattle.figures.specs.Rules.{train_check}
use Rattle.propagation.specs.Check.{segment_check}
use Rattle.study.specs.declared.Entry.{Entry}
use Rattle.study.specs.Plan.{Plan, empty_plan}
use Rattle.study.specs.Add.{Limits, segment_answer, train_answer}
use Rattle.study.specs.Run.{Addition, segment, train, kept, extend, extend_all}
use Rattle.study.proofs.Additions.{segments_room, segment_taken, entries_room, train_taken}
use Rattle.study.proofs.Plans.{answer_to, kept_one, accepted_only, refused_stays, by_one}
use Rattle.merging.specs.Joined.{raised_by, joined}
use Rattle.std.specs.Prelude.{Ok, Err}

-- ---- sizes

module _ (p q : Plan) where
  pub joined_count : length (joined p q).segments ≡ length p.segments + length q.segments
  unfolding joined
  joined_count = length-append p.segments q.segments

  pub joined_total : length (joined p q).entries ≡ length p.entries + length q.entries
  unfolding joined
  joined_total = length-append p.entries (map (raised_by (length p.segments)) q.entries) ∙ ap (λ (n : ℕ). length p.entries + n) (length-map q.entries (raised_by (length p.segments)))

pub joined_nothing : (p : Plan) → joined p empty_plan ≡ p
unfolding joined
joined_nothing p = simp append-nil

-- a plan that holds at least as much
record Grows (q r : Plan) : Type 0 where
  segments : length q.segments ≤ length r.segments
  entries : length q.entries ≤ length r.entries

grows_kept : (c : Check) {q r : Plan} → Grows q r → Grows q (kept c q r)
unfolding kept
grows_kept (Ok _) g = g
grows_kept (Err why) g = record { segments = omega arith; entries = omega arith }

grows_one : (l : Limits) (q : Plan) (a : Addition) → Grows q (extend l q a)
unfolding extend
grows_one l q (segment s) = grows_kept (segment_answer l (length q.segments) s) (record { segments = simp length-append (omega arith); entries = omega arith })
grows_one l q (train t) = grows_kept (train_answer l (length q.segments) (length q.entries) t) (record { segments = omega arith; entries = simp length-append (omega arith) })

grows_all : (l : Limits) (additions : List Addition) (q : Plan) → Grows q (extend_all l q additions)
unfolding extend_all
grows_all l [] q = record { segments = omega arith; entries = omega arith }
grows_all l (a ∷ rest) q =
    let one = grows_one l q a in
    let all = grows_all l rest (extend l q a) in
    record { segments = omega arith; entries = omega arith }

-- ---- one addition that the second plan accepts

module _ (l : Limits) where
  segment_fits : (count : ℕ) (s : Segment) → count < l.segments → segment_check s ≡ Ok tt → segment_answer l count s ≡ Ok tt
  unfolding segment_answer first_refused
  segment_fits count s h k = rw (segments_room l count h) k

  train_fits : (count total : ℕ) (t : Train) → (count ≡ 0 → ⊥) → total < l.entries → train_check t ≡ Ok tt → train_answer l count total t ≡ Ok tt
  unfolding train_answer first_refused
  train_fits count total t some h k = rw (entries_room l count total some h) k

module _ (l : Limits) (p : Plan) where
  -- the limits have room for both plans
  pub record Room (q : Plan) : Type 0 where
    pub segments : length p.segments + length q.segments ≤ l.segments
    pub entries : length p.entries + length q.entries ≤ l.entries

  room_before : {q r : Plan} → Grows q r → Room r → Room q
  room_before g room = record { segments = omega arith; entries = omega arith }

  still_accepted : (q : Plan) (a : Addition) → answer_to l q a ≡ Ok tt → Room (extend l q a) → answer_to l (joined p q) a ≡ Ok tt
  unfolding extend kept answer_to joined
  still_accepted q (segment s) e room =
      let more : length p.segments + length (q.segments ++ (s ∷ [])) ≤ l.segments = rw e at room.segments in
      segment_fits l (length (p.segments ++ q.segments)) s (omega (arith, length-append p.segments q.segments, length-append q.segments (s ∷ [])))
      (segment_taken l (length q.segments) s e).kept
  still_accepted q (train t) e room =
      let taken = train_taken l (length q.segments) (length q.entries) t e in
      let raised = raised_by (length p.segments) in
      let entry : Entry = record { segment = length q.segments - 1; train = t } in
      let more : length p.entries + length (q.entries ++ (entry ∷ [])) ≤ l.entries = rw e at room.entries in
      let count = length-append p.segments q.segments in
      let total = length-append p.entries (map raised q.entries) in
      train_fits l (length (p.segments ++ q.segments)) (length (p.entries ++ map raised q.entries)) t (λ z. taken.some (omega arith))
      (omega (arith, length-append q.entries (entry ∷ []), length-map q.entries raised)) taken.kept

  join_one : (q : Plan) (a : Addition) → answer_to l q a ≡ Ok tt → answer_to l (joined p q) a ≡ Ok tt → extend l (joined p q) a ≡ joined p (extend l q a)
  unfolding extend kept answer_to joined raised_by
  join_one q (segment s) e f = rw (e, f) (simp append_assoc)
  join_one q (train t) e f =
      let some = (train_taken l (length q.segments) (length q.entries) t e).some in
      let place : length (p.segments ++ q.segments) - 1 ≡ length p.segments + (length q.segments - 1) = omega (arith, some, length-append p.segments q.segments) in
      rw (e, f) (simp (append_assoc, map-append, place))

  pub join_all : (additions : List Addition) (q : Plan) → Room (extend_all l q additions) → extend_all l (joined p q) (accepted_only l q additions) ≡ joined p (extend_all l q additions)
  unfolding extend_all accepted_only
  join_all [] q room = refl
  join_all (a ∷ rest) q room =
      let r = extend l q a in
      let only = accepted_only l r rest in
      by_one (λ (xs : List Addition). extend_all l (joined p q) xs ≡ joined p (extend_all l r rest)) (answer_to l q a) a only
      (λ e. ap (λ (x : Plan). extend_all l x only) (join_one q a e (still_accepted q a e (room_before (grows_all l rest r) room))) ∙ join_all rest r room)
      (λ why e. subst (λ (x : Plan). extend_all l (joined p x) only ≡ joined p (extend_all l r rest)) (refused_stays l q a why e) (join_all rest r room))

  -- and none of it is refused
  pub none_refused_after : (additions : List Addition) (q : Plan) → Room (extend_all l q additions) → accepted_only l (joined p q) (accepted_only l q additions) ≡ accepted_only l q additions
  unfolding extend_all accepted_only kept_one
  none_refused_after [] q room = refl
  none_refused_after (a ∷ rest) q room =
      let r = extend l q a in
      let only = accepted_only l r rest in
      by_one (λ (xs : List Addition). accepted_only l (joined p q) xs ≡ xs) (answer_to l q a) a only
      (λ e.
      let f = still_accepted q a e (room_before (grows_all l rest r) room) in
      rw (f, join_one q a e f) (ap (λ (xs : List Addition). a ∷ xs) (none_refused_after rest r room)))
      (λ why e. subst (λ (x : Plan). accepted_only l (joined p x) only ≡ only) (refused_stays l q a why e) (none_refused_after rest r room))
