-- Both periods' levels written side by side, entry by entry: what the cells hold after so many entries, and after all.
-- Assumes nothing.
use mathlib.Core.Path.{◌≡◌, refl, sym, ap, ◌∙◌}
use mathlib.Core.List.{List, ◌++◌, append-nil}
use native.Mathlib.Nat.{add-zero}
use Prim.Native.Nat.{ℕ, ◌+◌, ◌<◌, ◌≤◌}
use native.Mathlib.Omega.{arith}
use lib.IntN.{ℤ}
use lib.ListN.{length, get_or, set, take, drop, length-append, get_or-map, length-take, length-set}
use lib.Seq.{paste, take-set-lt, take_at, drop_at}
use Rattle.std.proofs.lemmas.List.{set-append_left, drop-set-lt, take-append-drop}
use Rattle.std.proofs.lemmas.List.Edits.{paste_more, length-paste}
use Rattle.figures.specs.declared.Period.TheVariants.{Day, Night}
use Rattle.propagation.specs.declared.Propagation.{Propagation}
use Rattle.study.specs.declared.Entry.{Entry}
use Rattle.study.specs.Plan.{no_entry}
use Rattle.request.specs.Request.{cells_from, cell_from, tenths_of}
use Rattle.request.proofs.Answers.{both_laid, many_cells}

-- none pasted, and a cell before those that were
paste-none : {A : Type 0} (base s : List A) (at : ℕ) → paste base at s 0 ≡ base
paste-none base s at = rw (append-nil (take at base), add-zero at) (take-append-drop at base)

set-paste : {A : Type 0} (base s : List A) (at n k : ℕ) (v : A) → k < at → at ≤ length base → set (paste base at s n) k v ≡ paste (set base k v) at s n
set-paste {A} base s at n k v h room =
    set-append_left (take at base ++ take n s) (drop (at + n) base) k v (omega (arith, length-take at base, length-append (take at base) (take n s)))
    ∙ ap (λ (xs : List A). xs ++ drop (at + n) base) (set-append_left (take at base) (take n s) k v (omega (arith, length-take at base)))
    ∙ rw (take-set-lt at base k v h, drop-set-lt (at + n) base k v (omega arith)) refl

module _ (added : List Propagation) (es : List Entry) (before : List ℤ) where
  -- the levels of the first k entries stand in their cells
  pub record Laying (k : ℕ) (cells : List ℤ) : Type 0 where
    pub size : length cells ≡ length before
    pub is : cells ≡ paste (paste before 0 (cells_from Day added es) k) (length es) (cells_from Night added es) k

  module _ (room : length es + length es ≤ length before) where
    pub laying_none : Laying 0 before
    laying_none = record { size = refl; is = sym (paste-none (paste before 0 (cells_from Day added es) 0) (cells_from Night added es) (length es) ∙ paste-none before (cells_from Day added es) 0) }

    pub laying_more : {k : ℕ} {cells : List ℤ} {e : Entry} {d n : ℤ} → k < length es → Laying k cells → get_or es k no_entry ≡ e → d ≡ cell_from Day (tenths_of added) e → n ≡ cell_from Night (tenths_of added) e
        → Laying (k + 1) (set (set cells k d) (length es + k) n)
    laying_more {k} {cells} {e} {d} {n} h a s f g =
        let days = cells_from Day added es in
        let nights = cells_from Night added es in
        let many : length days ≡ length es = many_cells added es Day in
        let much : length nights ≡ length es = many_cells added es Night in
        let day : d ≡ get_or days k (cell_from Day (tenths_of added) no_entry) = f ∙ ap (cell_from Day (tenths_of added)) (sym s) ∙ sym (get_or-map (cell_from Day (tenths_of added)) es k no_entry) in
        let night : n ≡ get_or nights k (cell_from Night (tenths_of added) no_entry) = g ∙ ap (cell_from Night (tenths_of added)) (sym s) ∙ sym (get_or-map (cell_from Night (tenths_of added)) es k no_entry) in
        let whole : length (paste before 0 days k) ≡ length before = length-paste before 0 days k (omega arith) (omega (arith, many)) in
        let wider : length (paste before 0 days (k + 1)) ≡ length before = length-paste before 0 days (k + 1) (omega arith) (omega (arith, many)) in
        let here : k ≡ 0 + k = omega arith in
        let front : set (paste before 0 days k) k d ≡ paste before 0 days (k + 1) =
        rw day (ap (λ (j : ℕ). set (paste before 0 days k) j (get_or days k (cell_from Day (tenths_of added) no_entry))) here ∙ paste_more before 0 days k _ (omega arith) (omega (arith, many))) in
        record {
          size = length-set (set cells k d) (length es + k) n ∙ length-set cells k d ∙ a.size;
          is =
              ap (λ (cs : List ℤ). set (set cs k d) (length es + k) n) a.is
              ∙ ap (λ (cs : List ℤ). set cs (length es + k) n) (set-paste (paste before 0 days k) nights (length es) k k d h (omega (arith, whole)) ∙ ap (λ (cs : List ℤ). paste cs (length es) nights k) front)
              ∙ rw night (paste_more (paste before 0 days (k + 1)) (length es) nights k _ (omega (arith, wider)) (omega (arith, much)));
        }

    pub laying_all : {k : ℕ} {cells : List ℤ} → k ≡ length es → Laying k cells → cells ≡ cells_from Day added es ++ (cells_from Night added es ++ drop (length (cells_from Day added es) + length (cells_from Night added es)) before)
    laying_all {k} {cells} e a =
        let many : length (cells_from Day added es) ≡ length es = many_cells added es Day in
        let much : length (cells_from Night added es) ≡ length es = many_cells added es Night in
        let days = cells_from Day added es in
        let nights = cells_from Night added es in
        both_laid days nights before refl
        (a.is
        ∙ ap (λ (m : ℕ). paste (paste before 0 days m) (length es) nights k) (e ∙ sym many)
        ∙ ap (λ (m : ℕ). paste (paste before 0 days (length days)) m nights k) (sym many)
        ∙ ap (λ (m : ℕ). paste (paste before 0 days (length days)) (length days) nights m) (e ∙ sym much))

  -- each period's part of them
  module _ {cells : List ℤ} (rest : List ℤ) (all : cells ≡ cells_from Day added es ++ (cells_from Night added es ++ rest)) where
    pub day_part : take (length es) cells ≡ cells_from Day added es
    day_part = ap (take (length es)) all ∙ take_at (cells_from Day added es) (cells_from Night added es ++ rest) (length es) (many_cells added es Day)

    pub night_part : (n : ℕ) → n ≡ length es → take n (drop (length es) cells) ≡ cells_from Night added es
    night_part n e =
        ap (λ (cs : List ℤ). take n (drop (length es) cs)) all
        ∙ ap (take n) (drop_at (cells_from Day added es) (cells_from Night added es ++ rest) (length es) (many_cells added es Day))
        ∙ take_at (cells_from Night added es) rest n (many_cells added es Night ∙ sym e)
