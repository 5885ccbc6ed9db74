-- Laws of the lines: what they are put together from, and how long they are at most.
-- Assumes nothing.
use mathlib.Core.Path.{◌≡◌, refl, sym, ◌∙◌}
use mathlib.Core.Bool.{Bool, true, false}
use mathlib.Core.List.{List, [], ◌∷◌, ◌++◌, append_assoc, append-nil, flatten}
use Prim.Native.Nat.{ℕ, ◌<◌, ◌≤◌, ◌^◌}
use native.Mathlib.Omega.{arith}
use lib.IntN.{ℤ}
use lib.ListN.{length, length-append}
use mir.Syntax.{w32}
use mir.Val.{SFits, to_z, of_z}
use mir.Facts.{to_z-of_z}
use Rattle.std.specs.Fmt.{decimal}
use Rattle.std.specs.Prelude.{Ok, Err}
use Rattle.decibel.specs.declared.Level.{Level}
use Rattle.decibel.specs.declared.Level.TheVariants.{Silent, Figure}
use Rattle.figures.specs.declared.Refusal.{Refusal}
use Rattle.request.specs.declared.PeriodResult.{PeriodResult}
use Rattle.writing.specs.Bytes.{ascii, fitting, digits_of, figure_of}
use Rattle.writing.proofs.Digits.{digits_length, decimal_is}
use Rattle.writing.proofs.Concatenation.{all_fit, fits_as}
use Rattle.writing.proofs.Lengths.{figure_length}
use Rattle.text.specs.declared.Fault.{Fault}
use Rattle.words.specs.Words.{refused_of}
use Rattle.words.proofs.Notices.{refused_length}
use Rattle.report.specs.declared.Outcome.{Outcome}
use Rattle.figures.specs.declared.Periods.{Periods}
use Rattle.report.specs.Bytes.{level, verdict}
use Rattle.report.specs.Private.{result_line}
use Rattle.report.specs.Report.{result_parts, period_parts, answer_lines, refusal_line, written}

pub flatten_append : (ps qs : List (List ℕ)) → flatten (ps ++ qs) ≡ flatten ps ++ flatten qs
unfolding flatten
flatten_append [] qs = refl
flatten_append (p ∷ ps) qs = rw (flatten_append ps qs) (sym (append_assoc p (flatten ps) (flatten qs)))

-- ---- how long they are at most

-- a figure that its type holds
abbrev pub Held : Level → Type 0
Held l = (z : ℤ) → l ≡ Figure z → SFits w32 z

level_length : (l : Level) → Held l → length (level l) ≤ 12
unfolding level
level_length Silent f = omega arith
level_length (Figure z) f = figure_length z (f z refl)

verdict-length : (met : Bool) → length (verdict met) ≤ 3
unfolding verdict
verdict-length true = omega arith
verdict-length false = omega arith

pub refusal_length : (r : Refusal) (line : ℕ) → line < 2 ^ 64 → length (refusal_line r line) ≤ 37
unfolding refusal_line flatten
refusal_length r line h = simp length-append (omega (arith, refused_length r line h))

-- ---- a level and a period's result

pub silent_is : {l : Level} → l ≡ Silent → fitting 12 (ascii "silent" ∷ []) ≡ level l
unfolding level flatten
silent_is e = rw e (all_fit 12 (ascii "silent" ∷ []) (omega arith))

pub figure_is : {l : Level} {z : ℤ} → SFits w32 z → l ≡ Figure z → figure_of (to_z w32 (of_z w32 z)) ≡ level l
unfolding level
figure_is f e = rw (e, to_z-of_z f) refl

result_length : (r : PeriodResult) → length (level r.level) ≤ 12 → r.close < 2 ^ 32 → length (result_line r) ≤ 27
unfolding result_line result_parts flatten
result_length r l h = simp (length-append, append-nil) (omega (arith, l, digits_length 9 r.close (omega arith), verdict-length r.met))

result_parts_are : (r : PeriodResult) → flatten (level r.level ∷ ascii " " ∷ digits_of r.close ∷ ascii " " ∷ verdict r.met ∷ []) ≡ result_line r
unfolding result_line result_parts
result_parts_are r = refl

pub result_is : (r : PeriodResult) {figure count word : List ℕ}
    → length figure ≤ 12
    → r.close < 2 ^ 32
    → figure ≡ level r.level
    → count ≡ decimal r.close
    → word ≡ verdict r.met
    → fitting 27 (figure ∷ ascii " " ∷ count ∷ ascii " " ∷ word ∷ []) ≡ result_line r
result_is r l h f c w =
    rw (f, c, w, decimal_is r.close (omega arith))
    (fits_as 27 (level r.level ∷ ascii " " ∷ digits_of r.close ∷ ascii " " ∷ verdict r.met ∷ []) (result_parts_are r) (result_length r (rw f at l) h))

-- ---- the lines of an answer and of a refusal

period_is : (name : List ℕ) (r : PeriodResult) → flatten (period_parts name r) ≡ name ++ (result_line r ++ ascii "\n")
unfolding period_parts result_line flatten
period_is name r = rw (flatten_append (result_parts r) (ascii "\n" ∷ [])) refl

-- the parts that the lines are put together from
abbrev pub lines_of : List ℕ → List ℕ → List (List ℕ)
lines_of day night = ascii "period level close met\nday " ∷ day ∷ ascii "\nnight " ∷ night ∷ ascii "\n" ∷ []

lines_are : (day night : PeriodResult) → flatten (lines_of (result_line day) (result_line night)) ≡ answer_lines day night
unfolding answer_lines flatten
lines_are day night =
    let last : List ℕ = ascii "night " ++ (result_line night ++ ascii "\n") in
    rw (flatten_append (period_parts (ascii "day ") day) (period_parts (ascii "night ") night), period_is (ascii "day ") day, period_is (ascii "night ") night, append_assoc (result_line day) (ascii "\n") last) refl

lines_length : (day night : List ℕ) → length day ≤ 27 → length night ≤ 27 → length (flatten (lines_of day night)) ≤ 96
unfolding flatten
lines_length day night d n = simp length-append (omega (arith, d, n))

pub answer_is : (o : Outcome) (r : Periods PeriodResult) {day night : List ℕ}
    → o.0 ≡ Ok r
    → length day ≤ 27
    → length night ≤ 27
    → day ≡ result_line r.day
    → night ≡ result_line r.night
    → fitting 96 (lines_of day night) ≡ written o
unfolding written
answer_is o r {day} {night} e d n is_day is_night =
    all_fit 96 (lines_of day night) (lines_length day night d n) ∙ rw (e, is_day, is_night) (lines_are r.day r.night)

refusal_parts : (r : Refusal) (line : ℕ) → flatten (refused_of r line ∷ ascii "\n" ∷ []) ≡ refusal_line r line
unfolding refusal_line
refusal_parts r line = refl

pub refusal_is : (o : Outcome) (r : Fault) {refused : List ℕ}
    → o.0 ≡ Err r
    → r.line < 2 ^ 64
    → refused ≡ refused_of r.refusal r.line
    → fitting 96 (refused ∷ ascii "\n" ∷ []) ≡ written o
unfolding written
refusal_is o r e h is =
    rw (e, is) (fits_as 96 (refused_of r.refusal r.line ∷ ascii "\n" ∷ []) (refusal_parts r.refusal r.line) (omega (arith, refusal_length r.refusal r.line h)))

pub answer_length : (day night : PeriodResult)
    → Held day.level
    → day.close < 2 ^ 32
    → Held night.level
    → night.close < 2 ^ 32
    → length (answer_lines day night) ≤ 96
answer_length day night f h g k =
    rw (← lines_are day night) (lines_length (result_line day) (result_line night) (result_length day (level_length day.level f) h) (result_length night (level_length night.level g) k))
