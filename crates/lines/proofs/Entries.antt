-- Laws of the contents line: its entry counts one after another, and what each way out says of it.
-- Assumes nothing.
use Rattle.std.proofs.Common.{◌≡◌, ℕ, suc, ◌+◌, ◌<◌, ◌≤◌, Bool, true, false, cond, eqb, leb, List, [], ◌∷◌, ◌++◌, length, ℤ, pos, negsuc, Option, None, Some, Result, Ok, Err, sym, refl, ap, ◌∙◌, append_assoc, append-nil, arith, length-append, sum, eq-eqb, ne_eqb, le-leb, unwrap_or}
use Rattle.std.proofs.lemmas.List.Sums.{sum_by-append, sum_by-cons, sum_by_push}
use lib.ListN.{length-map}
use borrow.Author.Tests.{lt-leb}
use Rattle.figures.specs.declared.Refusal.{Refusal}
use Rattle.figures.specs.declared.Refusal.TheVariants as R
use Rattle.study.specs.Add.{Limits}
use Rattle.lines.specs.Bytes.{split, onto}
use Rattle.lines.specs.Numbers.{value_of, front, all_of, values_of, numbers_of, first_number, after_number}
use Rattle.lines.specs.Contents.{entry_count, counts_in, between, in_all, contents_in, contents_of}
use Rattle.lines.specs.Private.{counts_read, Held, Summed, Counted}

-- ---- the entry counts, one after another

some_counts : (cs : List ℕ) → 0 < sum cs → 0 < length cs
some_counts [] h = absurd (omega arith)
some_counts (c ∷ cs) h = omega arith

-- those read, then those left
abbrev onward : {A : Type 0} → List A → Option (List A) → Option (List A)
onward vs None = None
onward vs (Some ws) = Some (vs ++ ws)

onward_nil : {A : Type 0} (o : Option (List A)) → o ≡ onward [] o
onward_nil None = refl
onward_nil (Some vs) = refl

front_onward : {A : Type 0} (a : A) (bs : List A) (o : Option (List A)) → front a (onward bs o) ≡ onward (a ∷ bs) o
unfolding front
front_onward a bs None = refl
front_onward a bs (Some ds) = refl

onward_front : {A : Type 0} (vs : List A) (v : A) (o : Option (List A)) → onward vs (front v o) ≡ onward (vs ++ (v ∷ [])) o
unfolding front
onward_front vs v None = refl
onward_front vs v (Some ws) = ap Some (sym (append_assoc vs (v ∷ []) ws))

-- those that follow counts in range
counts_onward : (most : ℕ) (vs us : List ℤ) (cs : List ℕ) → counts_in most vs ≡ Some cs → counts_in most (vs ++ us) ≡ onward cs (counts_in most us)
unfolding counts_in front
counts_onward most [] us cs e = let z : [] ≡ cs = cc in rw (← z) (onward_nil (counts_in most us))
counts_onward most (negsuc m ∷ vs) us cs e = cc
counts_onward most (pos m ∷ vs) us cs e = go (leb m most) (counts_in most vs) (counts_onward most vs us) e
  where
    go : (t : Bool) (o : Option (List ℕ)) → ((ds : List ℕ) → o ≡ Some ds → counts_in most (vs ++ us) ≡ onward ds (counts_in most us))
        → cond t (front m o) None ≡ Some cs → cond t (front m (counts_in most (vs ++ us))) None ≡ onward cs (counts_in most us)
    go false o f q = cc
    go true None f q = cc
    go true (Some ds) f q = let z : m ∷ ds ≡ cs = cc in rw (f ds refl, ← z) (front_onward m ds (counts_in most us))

-- out of range as counts, whatever their number
unless_counted : (l : Limits) (vs : List ℤ) → in_all l (counts_in l.entries vs) ≡ Err R.Contents → counts_read l vs ≡ Err R.Contents
unless_counted l vs e = rw e (go (between 1 l.segments (length vs)))
  where
    go : (t : Bool) → cond {A = Result (List ℕ) Refusal} t (Err R.Contents) (Err R.Contents) ≡ Err R.Contents
    go true = refl
    go false = refl

over_sum : (l : Limits) (cs : List ℕ) (c : ℕ) (o : Option (List ℕ)) → l.entries < sum cs + c → in_all l (onward cs (entry_count l.entries (pos c) o)) ≡ Err R.Contents
unfolding front
over_sum l cs c o h = go (leb c l.entries) o
  where
    go : (t : Bool) (o : Option (List ℕ)) → in_all l (onward cs (cond t (front c o) None)) ≡ Err R.Contents
    go false o = refl
    go true None = refl
    go true (Some ds) =
        let e = sum_by-append (λ (n : ℕ). n) cs (c ∷ ds) in
        let f = sum_by-cons (λ (n : ℕ). n) c ds in
        rw (le-leb 1 (sum (cs ++ (c ∷ ds))) (omega arith), lt-leb (sum (cs ++ (c ∷ ds))) l.entries (omega arith))

-- one more, where those before are held
module _ (l : Limits) (v : ℤ) {before : List ℕ} {total : ℕ} where
  exceeded : ((vs : List ℤ) → Held l vs before total → (us : List ℤ) → counts_read l (vs ++ (v ∷ us)) ≡ Err R.Contents) → Counted l v before (Some total) before None
  exceeded f vs t us = rw append_assoc (f vs t us)

  -- no count
  pub exceeded_below : ((c : ℕ) → v ≡ pos c → ⊥) → Counted l v before (Some total) before None
  unfolding counts_in
  exceeded_below p = exceeded (λ vs t us. unless_counted l (vs ++ (v ∷ us)) (rw (counts_onward l.entries vs (v ∷ us) _ t.are, none_below v us p)))
    where
      none_below : (v : ℤ) (us : List ℤ) → ((c : ℕ) → v ≡ pos c → ⊥) → counts_in l.entries (v ∷ us) ≡ None
      none_below (pos m) us p = absurd (p m refl)
      none_below (negsuc m) us p = refl

  module _ {c : ℕ} (p : v ≡ pos c) where
    pub exceeded_sum : l.entries < total + c → Counted l v before (Some total) before None
    unfolding counts_in
    exceeded_sum h = exceeded (λ vs t us. unless_counted l (vs ++ (v ∷ us))
        (rw (counts_onward l.entries vs (v ∷ us) _ t.are, p) (over_sum l before c (counts_in l.entries us) (omega (arith, t.sum_is)))))

    pub held_more : length before < l.segments → total + c ≤ l.entries → {after : List ℕ} → after ≡ before ++ (c ∷ []) → Counted l v before (Some total) after (Some (total + c))
    unfolding counts_in front
    held_more h w e vs t =
        rw e (record {
          few = omega (arith, length-append before (c ∷ []));
          many = omega (arith, length-append before (c ∷ []), length-append vs (v ∷ []), t.many);
          are = rw (counts_onward l.entries vs (v ∷ []) _ t.are, p, le-leb c l.entries (omega arith));
          sum_is = omega (arith, t.sum_is, sum_by_push (λ (n : ℕ). n) before c);
          within = w;
        })

  -- as many as there may be
  pub exceeded_full : l.segments ≤ length before → Counted l v before (Some total) before None
  exceeded_full h = exceeded many
    where
      many : (vs : List ℤ) → Held l vs before total → (us : List ℤ) → counts_read l (vs ++ (v ∷ us)) ≡ Err R.Contents
      many vs t us =
          let k = length-append vs (v ∷ us) in
          rw (le-leb 1 (length (vs ++ (v ∷ us))) (omega arith), lt-leb (length (vs ++ (v ∷ us))) l.segments (omega (arith, t.many)))

-- ---- the whole line

-- no more words than bytes, and one
split_most : (sep : ℕ) (s : List ℕ) → length (split sep s) ≤ suc (length s)
unfolding split onto
split_most sep [] = omega arith
split_most sep (b ∷ bs) = go (split sep bs) (split_most sep bs) (eqb b sep)
  where
    go : (ps : List (List ℕ)) → length ps ≤ suc (length bs) → (t : Bool) → length (cond t ([] ∷ ps) (onto b ps)) ≤ suc (suc (length bs))
    go ps h true = omega arith
    go [] h false = omega arith
    go (p ∷ ps) h false = omega arith

words_most : (line : List ℕ) → length (values_of line) ≤ suc (length line)
unfolding values_of
words_most line = omega (arith, length-map (split 32 line) value_of, split_most 32 line)

module _ {os left : List (Option ℤ)} where
  taken : {v : ℤ} → Some v ≡ first_number os → left ≡ after_number os → os ≡ Some v ∷ left
  taken {v} e q = go os e q
    where
      go : (os : List (Option ℤ)) → Some v ≡ first_number os → left ≡ after_number os → os ≡ Some v ∷ left
      go [] e q = cc
      go (None ∷ os) e q = cc
      go (Some u ∷ os) e q = cc

  stuck : None ≡ first_number os → left ≡ after_number os → os ≡ left
  stuck e q = go os e q
    where
      go : (os : List (Option ℤ)) → None ≡ first_number os → left ≡ after_number os → os ≡ left
      go [] e q = sym q
      go (None ∷ os) e q = sym q
      go (Some u ∷ os) e q = cc

-- where no number is next, some word is none, or none is left
all_stuck : (os : List (Option ℤ)) → None ≡ first_number os → (os ≡ [] → ⊥) → all_of os ≡ None
unfolding all_of
all_stuck [] e n = absurd (n refl)
all_stuck (None ∷ os) e n = refl
all_stuck (Some u ∷ os) e n = cc

-- what is no count announces nothing
none_announced : (l : Limits) (v : ℤ) (o : Option (List ℤ)) → ((c : ℕ) → v ≡ pos c → ⊥) → Err R.Form ≡ contents_in l (front v o)
unfolding front
none_announced l v None n = refl
none_announced l (pos c) (Some vs) n = absurd (n c refl)
none_announced l (negsuc c) (Some vs) n = refl

module _ (l : Limits) (line : List ℕ) {os : List (Option ℤ)} (w : os ≡ values_of line) where
  pub first_wrong : None ≡ first_number os → Err R.Form ≡ contents_of l line
  unfolding contents_of numbers_of all_of
  first_wrong e = rw (← w) (go os e)
    where
      go : (os : List (Option ℤ)) → None ≡ first_number os → Err R.Form ≡ contents_in l (all_of os)
      go [] e = refl
      go (None ∷ os) e = refl
      go (Some u ∷ os) e = cc

  module _ {v : ℤ} {left : List (Option ℤ)} (e : Some v ≡ first_number os) (q : left ≡ after_number os) where
    first_is : numbers_of line ≡ front v (all_of left)
    unfolding numbers_of all_of
    first_is = ap all_of (sym w ∙ taken e q)

    pub first_below : ((c : ℕ) → v ≡ pos c → ⊥) → Err R.Form ≡ contents_of l line
    unfolding contents_of
    first_below n = rw first_is (none_announced l v (all_of left) n)

-- the line announces m counts, and n numbers after that are read
pub record Reached (l : Limits) (line : List ℕ) (m : ℕ) (list : List ℕ) (total : Option ℕ) (left : List (Option ℤ)) (n : ℕ) : Type 0 where
  pub vs : List ℤ
  pub so : numbers_of line ≡ onward (pos m ∷ vs) (all_of left)
  pub count : length vs ≡ n
  pub summed : Summed l vs list total
  pub room : n + length left ≤ length line

pub reached_first : (l : Limits) (line : List ℕ) {os left : List (Option ℤ)} {v : ℤ} {m : ℕ} {list : List ℕ} → os ≡ values_of line → Some v ≡ first_number os → left ≡ after_number os → v ≡ pos m → list ≡ []
    → Reached l line m list (Some 0) left 0
unfolding counts_in
reached_first l line {os} {left} {v} {m} w e q p z =
    let whole : os ≡ Some v ∷ left = taken e q in
    rw z (record {
      vs = [];
      so = first_is l line w e q ∙ rw p (ap (front (pos m)) (onward_nil (all_of left)) ∙ front_onward (pos m) [] (all_of left));
      count = refl;
      summed = record { few = omega arith; many = refl; are = refl; sum_is = refl; within = omega arith };
      room = omega (arith, words_most line, ap length w, ap length whole);
    })

module _ {l : Limits} {line : List ℕ} {m : ℕ} {list : List ℕ} {total : Option ℕ} {left : List (Option ℤ)} {n : ℕ} (r : Reached l line m list total left n) {rest : List (Option ℤ)} (q : rest ≡ after_number left) where
  pub reached_next : {v : ℤ} {after : List ℕ} {to : Option ℕ} → Some v ≡ first_number left → Counted l v list total after to → Reached l line m after to rest (n + 1)
  unfolding all_of
  reached_next {v} e b =
      let z : left ≡ Some v ∷ rest = taken e q in
      record {
        vs = r.vs ++ (v ∷ []);
        so = r.so ∙ ap (λ (os : List (Option ℤ)). onward (pos m ∷ r.vs) (all_of os)) z ∙ onward_front (pos m ∷ r.vs) v (all_of rest);
        count = omega (arith, r.count, length-append r.vs (v ∷ []));
        summed = b r.vs r.summed;
        room = omega (arith, r.room, ap length z);
      }

  module _ (e : None ≡ first_number left) where
    -- a word that is no number
    pub ended_torn : (rest ≡ [] → ⊥) → Err R.Form ≡ contents_of l line
    unfolding contents_of
    ended_torn k = rw (r.so, all_stuck left e (λ z. k (sym (stuck e q) ∙ z)))

    module _ (k : rest ≡ []) where
      read : numbers_of line ≡ Some (pos m ∷ r.vs)
      unfolding all_of
      read =
          let none : left ≡ [] = stuck e q ∙ k in
          r.so ∙ ap (λ (os : List (Option ℤ)). onward (pos m ∷ r.vs) (all_of os)) none ∙ ap Some (append-nil (pos m ∷ r.vs))

      -- more numbers or fewer than announced
      pub ended_other : (m ≡ n → ⊥) → Err R.Form ≡ contents_of l line
      unfolding contents_of
      ended_other d = rw (read, ne_eqb m (length r.vs) (λ z. d (z ∙ r.count)))

      module _ (d : m ≡ n) where
        as_announced : contents_of l line ≡ counts_read l r.vs
        unfolding contents_of
        as_announced = rw (read, eq-eqb m (length r.vs) (d ∙ sym r.count))

        -- out of range, or none in all
        pub ended_none : unwrap_or total 0 ≡ 0 → Err R.Contents ≡ contents_of l line
        ended_none z = sym (as_announced ∙ go total r.summed z)
          where
            go : (s : Option ℕ) → Summed l r.vs list s → unwrap_or s 0 ≡ 0 → counts_read l r.vs ≡ Err R.Contents
            go None t z = rw append-nil at (t [])
            go (Some s) t z = unless_counted l r.vs (rw t.are (rw (lt-leb 1 (sum list) (omega (arith, t.sum_is)))))

        pub ended_good : (unwrap_or total 0 ≡ 0 → ⊥) → Ok list ≡ contents_of l line
        ended_good z = sym (as_announced ∙ go total r.summed z)
          where
            go : (s : Option ℕ) → Summed l r.vs list s → (unwrap_or s 0 ≡ 0 → ⊥) → counts_read l r.vs ≡ Ok list
            go None t z = absurd (z refl)
            go (Some s) t z =
                let some : 0 < sum list = omega (arith, t.sum_is, z) in
                let few : length r.vs ≤ l.segments = omega (arith, t.many, t.few) in
                rw (
                  le-leb 1 (length r.vs) (omega (arith, t.many, some_counts list some)),
                  le-leb (length r.vs) l.segments few,
                  t.are,
                  le-leb 1 (sum list) some,
                  le-leb (sum list) l.entries (omega (arith, t.sum_is, t.within)),
                )
