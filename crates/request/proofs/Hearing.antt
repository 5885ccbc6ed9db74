-- Which segments are heard by the cells of their entries, and how many of those are marked as close.
-- Assumes nothing.
use mathlib.Core.Path.{◌≡◌, refl, sym, ap, ◌∙◌, subst}
use mathlib.Core.Bool.{Bool, true, false, cond, ◌&&◌, ◌||◌, or-false}
use mathlib.Core.List.{List, [], ◌∷◌, map}
use Prim.Native.Nat.{ℕ, zero, suc, ◌+◌, ◌<◌, min}
use native.Mathlib.Nat.{not-suc-le-zero, le_of_suc-le-suc, suc-min-suc, zero-min, min-zero}
use native.Mathlib.Numerals.{add-one}
use native.Mathlib.Omega.{arith}
use borrow.Author.Tests.{eqb-true, eqb-false}
use lib.Dec.{eqb}
use lib.IntN.{ℤ, pos, negsuc}
use lib.Signed.{le_z}
use lib.ListN.{length, get_or, set, take, replicate, length-set, get_or-replicate}
use lib.Seq.{get_or-set_same, get_or-set_other}
use Rattle.std.specs.List.{filter, enumerate_from, list_any}
use Rattle.std.proofs.lemmas.List.{map-id}
use Rattle.propagation.specs.declared.Propagation.{Propagation}
use Rattle.study.specs.Add.{ours}
use Rattle.request.specs.Request.{sounds_at, marks_of, count_to}
use Rattle.request.specs.Private.{CloseSegments, SegmentsHeard, marked_by}
use Rattle.request.proofs.Counts.{count_same, count_none, count_most, count_append}

or_left : (a b : Bool) → (a || b) ≡ false → a ≡ false
or_left true b e = cc
or_left false b e = refl

or_right : (a b : Bool) → (a || b) ≡ false → b ≡ false
or_right true b e = cc
or_right false b e = e

or_assoc : (a b c : Bool) → (a || (b || c)) ≡ ((a || b) || c)
or_assoc true b c = refl
or_assoc false b c = refl

-- one more entry
sounds_more : (k : ℕ) (es : List ℕ) (cs : List ℤ) (i : ℕ) → i < length es → i < length cs
    → sounds_at k (take (suc i) es) (take (suc i) cs) ≡ (sounds_at k (take i es) (take i cs) || (eqb (get_or es i 0) k && le_z (negsuc 1999) (get_or cs i (pos 0))))
unfolding sounds_at
sounds_more k [] cs i h l = absurd (not-suc-le-zero h)
sounds_more k (e ∷ es) [] i h l = absurd (not-suc-le-zero l)
sounds_more k (e ∷ es) (c ∷ cs) zero h l = or-false _
sounds_more k (e ∷ es) (c ∷ cs) (suc i) h l =
    ap (λ (b : Bool). (eqb e k && le_z (negsuc 1999) c) || b) (sounds_more k es cs i (le_of_suc-le-suc h) (le_of_suc-le-suc l))
    ∙ or_assoc (eqb e k && le_z (negsuc 1999) c) (sounds_at k (take i es) (take i cs)) _

pub marked_length : (heard : List Bool) (j : ℕ) (b : Bool) → length (marked_by heard j b) ≡ length heard
unfolding marked_by
marked_length heard j b = length-set heard j _

marked_at : (heard : List Bool) (j k : ℕ) (b : Bool) → k < length heard → get_or (marked_by heard j b) k false ≡ (get_or heard k false || (eqb j k && b))
unfolding marked_by
marked_at heard j k b h = go (eqb j k) refl
  where
    go : (t : Bool) → eqb j k ≡ t → get_or (set heard j (get_or heard j false || b)) k false ≡ (get_or heard k false || (t && b))
    go true e = rw (eqb-true j k e) (get_or-set_same heard k _ false h)
    go false e = get_or-set_other heard j k _ false (λ z. eqb-false j k e (sym z)) ∙ sym (or-false _)

-- the segments heard by the first i entries
pub record HeardTo (es : List ℕ) (cs : List ℤ) (i : ℕ) (heard : List Bool) : Type 0 where
  pub size : length heard ≡ ours.segments
  pub each : (k : ℕ) → k < ours.segments → get_or heard k false ≡ sounds_at k (take i es) (take i cs)

nothing_heard : (k : ℕ) (es : List ℕ) (cs : List ℤ) → sounds_at k (take 0 es) (take 0 cs) ≡ false
unfolding sounds_at
nothing_heard k es cs = refl

pub heard_none : (es : List ℕ) (cs : List ℤ) → HeardTo es cs 0 (replicate ours.segments false)
heard_none es cs = record { size = refl; each = λ k h. get_or-replicate ours.segments k false false h ∙ sym (nothing_heard k es cs) }

pub heard_more : (es : List ℕ) (cs : List ℤ) (i : ℕ) (heard : List Bool) (e : ℕ) (b : Bool) → i < length es → i < length cs → HeardTo es cs i heard
    → get_or es i 0 ≡ e → le_z (negsuc 1999) (get_or cs i (pos 0)) ≡ b → HeardTo es cs (i + 1) (marked_by heard e b)
heard_more es cs i heard e b h l old f g =
    record {
      size = marked_length heard e b ∙ old.size;
      each = λ k m. marked_at heard e k b (omega (arith, old.size)) ∙ rw (add-one, sounds_more k es cs i h l, old.each k m, f, g);
    }

-- past the end of either list nothing more is heard
sounds_all : (k : ℕ) (es : List ℕ) (cs : List ℤ) → sounds_at k (take (min (length es) (length cs)) es) (take (min (length es) (length cs)) cs) ≡ sounds_at k es cs
unfolding sounds_at
sounds_all k [] cs = rw (zero-min (length cs)) refl
sounds_all k (e ∷ es) [] = rw (min-zero (suc (length es))) refl
sounds_all k (e ∷ es) (c ∷ cs) =
    rw (suc-min-suc (length es) (length cs)) (ap (λ (b : Bool). (eqb e k && le_z (negsuc 1999) c) || b) (sounds_all k es cs))

pub heard_all : (es : List ℕ) (cs : List ℤ) (i : ℕ) (heard : List Bool) → i ≡ min (length es) (length cs) → HeardTo es cs i heard → SegmentsHeard es cs heard
heard_all es cs i heard e all = record { each = λ k h. all.each k h ∙ rw e (sounds_all k es cs) }

-- ---- counted, segment by segment

-- one element more or less, by the test
one_more : {A : Type 0} (b : Bool) (x : A) (xs : List A) → length (cond b (x ∷ xs) xs) ≡ cond b 1 0 + length xs
one_more true x xs = omega arith
one_more false x xs = omega arith

-- of segments, by what gives their marks and whether the one at a place is heard
module _ {A : Type 0} (mark : A → Bool) (heard : ℕ → Bool) where
  -- a segment with its place that is close and heard
  abbrev counted_one : ℕ × A → Bool
  counted_one p = mark p.1 && heard p.0

  -- the same of a place, for segments of which the first has place k
  abbrev counts : ℕ → List A → ℕ → Bool
  counts k added j = get_or (map mark added) j false && heard (k + j)

  counted_first : (a : A) (rest : List A) (k : ℕ) → counts k (a ∷ rest) 0 ≡ counted_one (k, a)
  counted_first a rest k =
      let e : k + 0 ≡ k = omega arith in
      ap (λ (j : ℕ). mark a && heard j) e

  counted_next : (a : A) (rest : List A) (k j : ℕ) → counts k (a ∷ rest) (suc j) ≡ counts (k + 1) rest j
  counted_next a rest k j =
      let e : k + suc j ≡ k + 1 + j = omega arith in
      ap (λ (i : ℕ). get_or (map mark rest) j false && heard i) e

  counted_at : (added : List A) (j : ℕ) → counts 0 added j ≡ (get_or (map mark added) j false && heard j)
  counted_at added j =
      let e : 0 + j ≡ j = omega arith in
      ap (λ (i : ℕ). get_or (map mark added) j false && heard i) e

  -- those that pass the test among the first n
  counted : (n k : ℕ) (added : List A) → length (filter counted_one (take n (enumerate_from k added))) ≡ count_to (counts k added) n
  unfolding count_to
  counted zero k added = refl
  counted (suc n) k [] = sym (count_none (counts k []) (suc n) (λ j. refl))
  counted (suc n) k (a ∷ rest) =
      let f = counts k (a ∷ rest) in
      let e : suc n ≡ 1 + n = omega arith in
      let split = ap (count_to f) e ∙ count_append f 1 n in
      let later = count_same (λ j. f (1 + j)) (counts (k + 1) rest) n (λ j h. let e : 1 + j ≡ suc j = omega arith in ap f e ∙ counted_next a rest k j) in
      let first = ap {B = ℕ} (λ (b : Bool). cond b 1 0) (counted_first a rest k) in
      omega (arith, one_more (counted_one (k, a)) (k, a) (filter counted_one (take n (enumerate_from (k + 1) rest))), counted n (k + 1) rest, split, later, first)

  close_by : {places : List ℕ} {levels : List ℤ} → ((k : ℕ) → k < ours.segments → heard k ≡ sounds_at k places levels) → (added : List A) {r : ℕ} → r ≡ length (filter counted_one (take ours.segments (enumerate_from 0 added))) → CloseSegments levels places (map mark added) r
  close_by {places} {levels} sounds added e =
      let all = counted ours.segments 0 added in
      let same =
      count_same (counts 0 added) (λ k. get_or (map mark added) k false && sounds_at k places levels) ours.segments (λ j h. counted_at added j ∙ ap (λ (b : Bool). get_or (map mark added) j false && b) (sounds j h)) in
      record { is = e ∙ all ∙ same; most = omega (arith, e, all, count_most (counts 0 added) ours.segments) }

-- where none is marked none is counted
none_marked : {A : Type 0} (mark : A → Bool) (added : List A) → list_any mark added ≡ false → (k : ℕ) → get_or (map mark added) k false ≡ false
none_marked mark [] e k = refl
none_marked mark (a ∷ rest) e zero = or_left (mark a) (list_any mark rest) e
none_marked mark (a ∷ rest) e (suc k) = none_marked mark rest (or_right (mark a) (list_any mark rest) e) k

pub close_none : {A : Type 0} (mark : A → Bool) (places : List ℕ) (levels : List ℤ) (added : List A) → list_any mark added ≡ false → CloseSegments levels places (map mark added) 0
close_none mark places levels added e =
    record {
      is = sym (count_none (λ k. get_or (map mark added) k false && sounds_at k places levels) ours.segments (λ k. ap (λ (b : Bool). b && sounds_at k places levels) (none_marked mark added e k)));
      most = omega arith;
    }

-- by what the segments add
abbrev pub is_counted : List Bool → ℕ × Propagation → Bool
is_counted heard p = p.1.close && get_or heard p.0 false

pub close_segments_by : {places : List ℕ} {levels : List ℤ} {heard : List Bool} → SegmentsHeard places levels heard → (added : List Propagation) {r : ℕ}
    → r ≡ length (filter (is_counted heard) (take ours.segments (enumerate_from 0 added))) → CloseSegments levels places (marks_of added) r
close_segments_by {heard = heard} all added e = close_by (λ (a : Propagation). a.close) (λ (k : ℕ). get_or heard k false) all.each added e

-- and by the segments' marks
abbrev pub is_counted_among : List Bool → ℕ × Bool → Bool
is_counted_among heard p = p.1 && get_or heard p.0 false

pub close_among_by : {places : List ℕ} {levels : List ℤ} {heard : List Bool} → SegmentsHeard places levels heard → (close : List Bool) {r : ℕ}
    → r ≡ length (filter (is_counted_among heard) (take ours.segments (enumerate_from 0 close))) → CloseSegments levels places close r
close_among_by {places} {levels} {heard} all close {r} e =
    subst (λ (marks : List Bool). CloseSegments levels places marks r) (map-id close) (close_by (λ (b : Bool). b) (λ (k : ℕ). get_or heard k false) all.each close e)

pub none_among : (places : List ℕ) (levels : List ℤ) (close : List Bool) → list_any (λ (b : Bool). b) close ≡ false → CloseSegments levels places close 0
none_among places levels close e =
    subst (λ (marks : List Bool). CloseSegments levels places marks 0) (map-id close) (close_none (λ (b : Bool). b) places levels close e)
