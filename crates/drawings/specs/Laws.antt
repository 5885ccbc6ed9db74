-- What a caller with two texts can rely on beside the equation (02, L5). Proved as `merged_texts` in proofs/Laws.antt.
-- Assumes nothing.
use Rattle.std.specs.Prelude.{◌≡◌, ◌⊎◌, List, ℕ, ◌≤◌, ℤ, Ok, Err}
use Rattle.figures.specs.declared.Refusal.{Refusal}
use Rattle.figures.specs.declared.Refusal.TheVariants.{SegmentLimit, EntryLimit, FewCells}
use Rattle.figures.specs.Refusal.{number_of, Check}
use Rattle.study.specs.Add.{ours}
use Rattle.text.specs.Text.{read_text}
use Rattle.text.specs.Answer.{TextAnswer, plan_in, text_answer, cells_with}
use Rattle.merging.specs.Joined.{joined}
use Rattle.drawings.specs.Drawings.{MergedAnswer, answer_told, text_told, line_told, check_told, merged_plan_in, merged_answer, texts_check}

-- answered, or 21, 22 or 24: the refusals of both texts together
abbrev pub OfBothTexts : Check → Type 0
OfBothTexts c = (c ≡ Ok tt) ⊎ ((c ≡ Err SegmentLimit) ⊎ ((c ≡ Err EntryLimit) ⊎ (c ≡ Err FewCells)))

-- where the first text is told, it is refused, with this refusal at this line
pub record FirstTold (first : List ℕ) (r : MergedAnswer) : Type 0 where
  pub told : text_told r ≡ 1
  pub check : check_told r ≡ (read_text ours first).check
  pub own : (why : Refusal) × ((check_told r ≡ Err why) × (number_of why ≤ 13))
  pub line : line_told r ≡ (read_text ours first).line

-- where the second is, the first is accepted and the second refused
pub record SecondTold (first second : List ℕ) (r : MergedAnswer) : Type 0 where
  pub told : text_told r ≡ 2
  pub accepted : (read_text ours first).check ≡ Ok tt
  pub check : check_told r ≡ (read_text ours second).check
  pub own : (why : Refusal) × ((check_told r ≡ Err why) × (number_of why ≤ 13))
  pub line : line_told r ≡ (read_text ours second).line

-- where none is, both are accepted: so 20 and 23 never come
pub record NoneTold (first second : List ℕ) (r : MergedAnswer) : Type 0 where
  pub told : text_told r ≡ 0
  pub one : (read_text ours first).check ≡ Ok tt
  pub two : (read_text ours second).check ≡ Ok tt
  pub check : OfBothTexts (check_told r)
  pub line : line_told r ≡ 0

-- a third text is accepted and has the segments and entries of both, joined
pub record WholeText (first second whole : List ℕ) : Type 0 where
  pub one : (read_text ours first).check ≡ Ok tt
  pub two : (read_text ours second).check ≡ Ok tt
  pub all : (read_text ours whole).check ≡ Ok tt
  pub lists : plan_in whole ≡ joined (plan_in first) (plan_in second)

-- what is answered of two texts is what is answered of one, with its line
pub record SameAnswer (r : MergedAnswer) (t : TextAnswer) : Type 0 where
  pub text : text_told r ≡ 0
  pub answer : answer_told r ≡ t

pub record MergedTexts : Type 0 where
  -- every answer tells the first text, the second, or none
  pub told : (first second : List ℕ) (cells : ℕ) → let r = merged_answer first second cells in FirstTold first r ⊎ (SecondTold first second r ⊎ NoneTold first second r)
  -- "as if it had been typed whole": the answer and the cells are those of the one text
  pub whole_answer : (first second whole : List ℕ) → WholeText first second whole → (cells : ℕ) → SameAnswer (merged_answer first second cells) (text_answer whole cells)
  pub whole_cells : (first second whole : List ℕ) → WholeText first second whole → (cells : List ℤ) →
      cells_with (texts_check first second) (merged_plan_in first second) cells ≡ cells_with (read_text ours whole).check (plan_in whole) cells
