-- The report of a study text (01, "The text"): the bytes that the program writes, and the whole way from the text to them.
-- Assumes nothing.
use mathlib.Core.List.{List, [], ◌∷◌, ◌++◌, flatten}
use Rattle.std.specs.Prelude.{◌≡◌, ℕ, ◌≤◌, length, Ok, Err}
use Rattle.figures.specs.declared.Refusal.{Refusal}
use Rattle.request.specs.declared.PeriodResult.{PeriodResult}
use Rattle.request.specs.Levels.{MarksAllowed, own_marks}
use Rattle.text.specs.Answer.{TextAnswer, plan_in, text_answer}
use Rattle.writing.specs.Bytes.{ascii, digits_of}
use Rattle.words.specs.Words.{refused_of, notice_of}
use Rattle.report.specs.declared.Outcome.{Outcome}
use Rattle.report.specs.Bytes.{level, verdict}

-- ---- the lines, part by part

-- a period's level, close count and verdict, one space from each other
unfoldable pub result_parts : PeriodResult → List (List ℕ)
result_parts r = level r.level ∷ ascii " " ∷ digits_of r.close ∷ ascii " " ∷ verdict r.met ∷ []

-- a period's line: its name with a space, and these
unfoldable pub period_parts : List ℕ → PeriodResult → List (List ℕ)
period_parts name r = name ∷ (result_parts r ++ (ascii "\n" ∷ []))

unfoldable pub answer_lines : PeriodResult → PeriodResult → List ℕ
answer_lines day night =
    flatten (ascii "period level close met\n" ∷ (period_parts (ascii "day ") day ++ period_parts (ascii "night ") night))

-- the one line of a refusal, with 01's number and the line of the text
unfoldable pub refusal_line : Refusal → ℕ → List ℕ
refusal_line r line = flatten (refused_of r line ∷ ascii "\n" ∷ [])

-- ---- what a text comes to

-- the working cells that the program lends: no text that is accepted asks for more
abbrev pub cells_lent : ℕ
cells_lent = 192

abbrev pub outcome_of : List ℕ → TextAnswer
outcome_of text = text_answer text cells_lent

-- ---- the report and the notice

abbrev pub report_by : TextAnswer → List ℕ
report_by (Ok results) = answer_lines results.day results.night
report_by (Err fault) = refusal_line fault.refusal fault.line

-- a text that is answered has none
abbrev pub notice_by : TextAnswer → List ℕ
notice_by (Ok results) = []
notice_by (Err fault) = notice_of fault.refusal fault.line

unfoldable pub report_of : List ℕ → List ℕ
report_of text = report_by (outcome_of text)

unfoldable pub notice_for : List ℕ → List ℕ
notice_for text = notice_by (outcome_of text)

-- every report and every notice has room in so many bytes
abbrev pub report_room : ℕ
report_room = 96

abbrev pub notice_room : ℕ
notice_room = 450

-- ---- a report, as it is written

unfoldable pub written : Outcome → List ℕ
written r = report_by r.0

-- and the notice beside it: none of an answer
unfoldable pub noticed : Outcome → List ℕ
noticed r = notice_by r.0

-- what the report of a text ensures: it is written as the text's, what it refuses is noticed as the text's, and 01 allows the marks
pub record Reported (text : List ℕ) (r : Outcome) : Type 0 where
  pub output : written r ≡ report_of text
  pub output_room : length (report_of text) ≤ report_room
  pub told : noticed r ≡ notice_for text
  pub told_room : length (notice_for text) ≤ notice_room
  pub allowed : MarksAllowed (plan_in text) (own_marks (plan_in text))
