-- What private contracts alone cite: the next line of a text, what it adds, the answer that it gives, and the refusal of one of several texts.
-- Assumes nothing.
use Rattle.std.specs.Prelude.{◌≡◌, List, [], ◌∷◌, ℕ, ◌<◌, ℤ, length, Ok, Err}
use Rattle.figures.specs.declared.Segment as figures
use Rattle.figures.specs.declared.Train.{Train}
use Rattle.figures.specs.declared.Refusal.{Refusal}
use Rattle.figures.specs.declared.Refusal.TheVariants.{Contents}
use Rattle.propagation.specs.declared.Propagation.{Propagation}
use Rattle.propagation.specs.Propagation.{propagation_of}
use Rattle.study.specs.Plan.{Plan, empty_plan}
use Rattle.study.specs.Add.{ours, with_segment, with_train}
use Rattle.request.specs.Levels.{own_marks, MarksAllowed}
use Rattle.text.specs.Text.{Reading, Line, ended, lines_of, Kind, segment_kind, train_kind, kinds_of, add_line, refused_at, read_lines, read_from, read_text}
use Rattle.text.specs.declared.TextFault.{TextFault}
use Rattle.text.specs.Answer.{TextAnswer, answer_with, cells_with}
use Rattle.figures.specs.Refusal.{Check}

-- the reading of the lines after the contents
abbrev pub body_reading : List ℕ → List ℕ → Reading
body_reading counts text = read_lines ours empty_plan 2 (kinds_of counts) (lines_of text)

-- ---- the next line

-- what the first line answers where one of this kind is to come: 13 where there is none
unfoldable pub first_adds : Kind → Plan → List Line → Check
first_adds kind st [] = Err Contents
first_adds kind st (x ∷ xs) = (add_line ours kind st x).check

abbrev pub LineRefused : Kind → Plan → List ℕ → Refusal → Type 0
LineRefused kind st text f = first_adds kind st (lines_of text) ≡ Err f

-- a line comes first, and what follows it
pub record NextLine (text line rest : List ℕ) : Type 0 where
  pub is : lines_of text ≡ ended line ∷ lines_of rest
  pub ahead : length rest < length text

-- none does: whatever is to come, it is refused so, and so are the contents
pub record NoLine (text : List ℕ) (f : Refusal) : Type 0 where
  pub adds : (kind : Kind) (st : Plan) → LineRefused kind st text f
  pub opens : read_from ours (lines_of text) ≡ refused_at f 1

-- ---- what it adds

-- a line of this kind comes first and makes a new study
pub record Took (kind : Kind) (st : Plan) (text rest : List ℕ) (new : Plan) : Type 0 where
  pub line : Line
  pub accepted : (add_line ours kind st line).check ≡ Ok tt
  pub is : (add_line ours kind st line).study ≡ new
  pub ahead : length rest < length text
  pub lines : lines_of text ≡ line ∷ lines_of rest

-- whatever the study of so many segments
pub record SegmentTaken (count : ℕ) (text : List ℕ) (p : Propagation) (rest : List ℕ) : Type 0 where
  pub segment : figures.Segment
  pub adds : p ≡ propagation_of segment
  pub took : (st : Plan) → length st.segments ≡ count → Took segment_kind st text rest (with_segment st segment)

abbrev pub SegmentFault : ℕ → List ℕ → Refusal → Type 0
SegmentFault count text f = (st : Plan) → length st.segments ≡ count → LineRefused segment_kind st text f

-- and of so many segments and entries
pub record TrainTaken (count total : ℕ) (text : List ℕ) (t : Train) (rest : List ℕ) : Type 0 where
  pub took : (st : Plan) → length st.segments ≡ count → length st.entries ≡ total → Took train_kind st text rest (with_train st t)

abbrev pub TrainFault : ℕ → ℕ → List ℕ → Refusal → Type 0
TrainFault count total text f = (st : Plan) → length st.segments ≡ count → length st.entries ≡ total → LineRefused train_kind st text f

-- ---- the answer

-- that of a reading, and what the cells hold then
pub record Answers (reading : Reading) (before after : List ℤ) (r : TextAnswer) : Type 0 where
  pub answer : r ≡ answer_with reading.check reading.line reading.study (length before)
  pub cells : after ≡ cells_with reading.check reading.study before
  pub allowed : MarksAllowed reading.study (own_marks reading.study)

-- ---- one of several texts

-- the text is refused, and its number is told with its refusal and its line
pub record TextRefused (number : ℕ) (text : List ℕ) (f : TextFault) : Type 0 where
  pub check : (read_text ours text).check ≡ Err f.fault.refusal
  pub told : f.text ≡ number
  pub line : f.fault.line ≡ (read_text ours text).line
