-- A period of both texts: the levels of one after those of the other in the cells, and the result that they give.
-- Assumes nothing.
use mathlib.Core.Path.{◌≡◌, refl, sym, ap, ap₂, ◌∙◌}
use mathlib.Core.Bool.{Bool, cond}
use mathlib.Core.List.{List, ◌++◌, append_assoc}
use Prim.Native.Nat.{ℕ, ◌+◌, ◌≤◌, ◌<◌}
use native.Mathlib.Omega.{arith}
use borrow.Author.Tests.{le-leb, lt-leb}
use lib.IntN.{ℤ}
use lib.ListN.{length, take, drop, length-append}
use lib.Seq.{paste, take-length, length-take-le, take_at, drop_at, drop-drop, take-paste, drop-paste}
use Rattle.energy.specs.declared.Total.{Total}
use Rattle.figures.specs.declared.Period.{Period}
use Rattle.figures.specs.declared.Period.TheVariants.{Day, Night}
use Rattle.figures.specs.declared.Refusal.{Refusal}
use Rattle.figures.specs.declared.Refusal.TheVariants.{FewCells}
use Rattle.figures.specs.Periods.{in_period}
use Rattle.figures.specs.Refusal.{Check, unless, first_refused, answered}
use Rattle.request.specs.declared.PeriodResult.{PeriodResult}
use Rattle.request.specs.Levels.{met_by, result_from}
use Rattle.request.specs.Request.{cells_needed, laid, answer_of}
use Rattle.request.proofs.Answers.{both_laid}
use Rattle.drawings.specs.declared.Drawing.{Drawing}
use Rattle.drawings.specs.Private.{total_in, PeriodLaid, entries_together, limits_together, check_together, levels_together, Together}
use Rattle.std.specs.Prelude.{Ok, Err}

-- one list after another is both at once
pub pasted_both : (d own others : List ℤ) (at : ℕ) → at ≤ length d → {first after : List ℤ} → first ≡ paste d at own (length own) → after ≡ paste first (at + length own) others (length others)
    → after ≡ paste d at (own ++ others) (length (own ++ others))
pasted_both d own others at h {first} {after} a b =
    let n = length own in
    let m = length others in
    let same : at + n + m ≡ at + (n + m) = omega arith in
    let front : take (at + n) first ≡ take at d ++ own = ap (take (at + n)) a ∙ take-paste d at own n h (omega arith) ∙ ap (λ (x : List ℤ). take at d ++ x) (take-length own) in
    let rest : drop (at + n + m) first ≡ drop (at + (n + m)) d =
    sym (drop-drop m (at + n) first) ∙ ap (λ (x : List ℤ). drop m (drop (at + n) x)) a ∙ ap (drop m) (drop-paste d at own n h (omega arith)) ∙ drop-drop m (at + n) d ∙ ap (λ (k : ℕ). drop k d) same in
    b ∙ ap₂ (λ (x y : List ℤ). (x ++ take m others) ++ y) front rest
    ∙ rw (take-length others, take-length (own ++ others), length-append own others, append_assoc (take at d) own others) refl

-- what was written is read again
pub pasted_part : (d levels : List ℤ) (at n : ℕ) → at ≤ length d → n ≡ length levels → {after : List ℤ} → after ≡ paste d at levels (length levels) → take n (drop at after) ≡ levels
pasted_part d levels at n h e a =
    let rest = drop (at + length levels) d in
    ap (λ (x : List ℤ). take n (drop at x)) (a ∙ append_assoc (take at d) (take (length levels) levels) rest)
    ∙ ap (take n) (drop_at (take at d) (take (length levels) levels ++ rest) at (length-take-le at d h))
    ∙ rw (take-length levels) (take_at levels rest n (sym e))

-- the total's mark counts
pub result_is : (p : Period) (levels : List ℤ) (close : ℕ) {t : Total} → t ≡ total_in levels → {mark : ℕ} → mark ≡ cond t.close 1 0 → {met : Bool} → met ≡ met_by p t.level
    → ◌≡◌ {A = PeriodResult} (record { level = t.level; close = close + mark; met = met }) (result_from p (total_in levels) close)
unfolding result_from
result_is p levels close total marked verdict = rw (marked, verdict, total) refl

-- ---- both periods

-- a refusal of both together leaves the cells; else the day's levels come first and the night's after them
module _ (one two : Drawing) (before : List ℤ) where
  module _ {check : Check} (is : check ≡ limits_together one two) where
    pub together_refused : {why : Refusal} → check ≡ Err why → Together one two before before (Err why)
    unfolding check_together first_refused laid answer_of answered
    together_refused e = let why = sym is ∙ e in record { cells = rw why refl; answer = rw why refl }

    module _ (good : check ≡ Ok tt) where
      within : limits_together one two ≡ Ok tt
      within = sym is ∙ good

      pub together_few : length before < cells_needed (entries_together one two) → Together one two before before (Err FewCells)
      unfolding check_together first_refused unless laid answer_of answered
      together_few h = let lacks = lt-leb (cells_needed (entries_together one two)) (length before) h in record { cells = rw (within, lacks) refl; answer = rw (within, lacks) refl }

      pub both_periods : cells_needed (entries_together one two) ≤ length before → {mid after : List ℤ} {d e : PeriodResult}
          → PeriodLaid Day one.parts.day two.parts.day 0 before mid d → PeriodLaid Night one.parts.night two.parts.night (entries_together one two) mid after e → Together one two before after (Ok (record { day = d; night = e }))
      unfolding check_together first_refused unless laid answer_of answered in_period
      both_periods h d e =
          let night = rw (sym (length-append one.parts.day.levels.now two.parts.day.levels.now)) at e.cells in
          let enough = le-leb (cells_needed (entries_together one two)) (length before) h in
          record {
            cells = both_laid (levels_together Day one two) (levels_together Night one two) before d.cells night ∙ rw (within, enough) refl;
            answer = rw (within, enough, d.result, e.result) refl;
          }
