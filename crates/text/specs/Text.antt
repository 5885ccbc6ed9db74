-- The reading of a text (01, "The text"): its lines, the kinds of line that the contents announce, and what comes out.
-- Assumes nothing.
use Rattle.std.specs.Prelude.{ℕ, zero, suc, ◌+◌, List, [], ◌∷◌, Option, None, Some, Result, Ok, Err, cond, length, leb}
use Rattle.figures.specs.declared.Segment.{Segment}
use Rattle.figures.specs.declared.Train.{Train}
use Rattle.figures.specs.declared.Refusal.{Refusal}
use Rattle.figures.specs.declared.Refusal.TheVariants.{Form, Contents}
use Rattle.study.specs.Plan.{Plan, empty_plan}
use Rattle.study.specs.Add.{Limits, Added, add_segment, add_train}
use Rattle.lines.specs.Bytes.{split}
use Rattle.lines.specs.Lines.{segment_of, train_of}
use Rattle.lines.specs.Contents.{contents_of}
use Rattle.figures.specs.Refusal.{Check}

-- "a line feed after each line": a line that one ends, without it; or bytes at the end of the text that none ends
pub data Line : Type 0 where
  ended : List ℕ → Line
  unended : Line

-- what stands after the last line feed is no line where it is empty
abbrev pub last_line : List ℕ → List Line
last_line [] = []
last_line (b ∷ bs) = unended ∷ []

unfoldable pub lines_in : List (List ℕ) → List Line
lines_in [] = []
lines_in (p ∷ []) = last_line p
lines_in (p ∷ q ∷ qs) = ended p ∷ lines_in (q ∷ qs)

unfoldable pub lines_of : List ℕ → List Line
lines_of text = lines_in (split 10 text)

-- which line is to come
pub data Kind : Type 0 where
  segment_kind : Kind
  train_kind : Kind

-- "Then each segment's line, its train lines after it": the kinds of line to come, from the segments' entry counts
unfoldable pub trains : ℕ → List Kind → List Kind
trains zero ks = ks
trains (suc n) ks = train_kind ∷ trains n ks

unfoldable pub kinds_of : List ℕ → List Kind
unfolding trains
kinds_of [] = []
kinds_of (c ∷ cs) = segment_kind ∷ trains c (kinds_of cs)

-- what a line adds to a study. "Within a line 12 precedes all else": all its numbers are read before the addition judges any
abbrev pub refused_addition : Plan → Refusal → Added
refused_addition st r = record { check = Err r; study = st }

abbrev pub segment_adds : Limits → Plan → Option Segment → Added
segment_adds l st None = refused_addition st Form
segment_adds l st (Some s) = add_segment l st s

abbrev pub train_adds : Limits → Plan → Option Train → Added
train_adds l st None = refused_addition st Form
train_adds l st (Some t) = add_train l st t

-- "bytes at the end without a line feed are a line of wrong form", whatever they are
unfoldable pub add_line : Limits → Kind → Plan → Line → Added
add_line l kind st unended = refused_addition st Form
add_line l segment_kind st (ended line) = segment_adds l st (segment_of line)
add_line l train_kind st (ended line) = train_adds l st (train_of line)

-- what a reading gives: accepted at line 0 with its study, or the refusal, the line at fault and the empty study
pub record Reading : Type 0 where
  pub check : Check
  pub line : ℕ
  pub study : Plan

-- the study of all the lines' additions
abbrev pub accepted_with : Plan → Reading
accepted_with st = record { check = Ok tt; line = 0; study = st }

-- "a refused text gives the empty study"
abbrev pub refused_at : Refusal → ℕ → Reading
refused_at r line = record { check = Err r; line = line; study = empty_plan }

-- "The first line at fault, counted from 1, ends the reading": what follows counts only after an accepted line
abbrev pub after : Check → ℕ → Reading → Reading
after (Ok _) line rest = rest
after (Err r) line rest = refused_at r line

-- the lines from number k on, with the study so far: "a missing line or an extra one is 13, at that line", with any bytes in it
unfoldable pub read_lines : Limits → Plan → ℕ → List Kind → List Line → Reading
read_lines l st k [] [] = accepted_with st
read_lines l st k [] (x ∷ xs) = refused_at Contents k
read_lines l st k (p ∷ ps) [] = refused_at Contents k
read_lines l st k (p ∷ ps) (x ∷ xs) = after (add_line l p st x).check k (read_lines l (add_line l p st x).study (k + 1) ps xs)

-- "Reading begins with an empty study"; the contents are line 1
abbrev pub read_body : Limits → Result (List ℕ) Refusal → List Line → Reading
read_body l (Err r) xs = refused_at r 1
read_body l (Ok cs) xs = read_lines l empty_plan 2 (kinds_of cs) xs

-- "The empty text is 13 at line 1"
abbrev pub read_from : Limits → List Line → Reading
read_from l [] = refused_at Contents 1
read_from l (unended ∷ xs) = refused_at Form 1
read_from l (ended line ∷ xs) = read_body l (contents_of l line) xs

-- "At most 16,384 bytes; more is 12 at line 0". 20 and more never come from a text (`text_refusal_is_own` of proofs/Refusals.antt)
unfoldable pub read_text : Limits → List ℕ → Reading
read_text l text = cond (leb (length text) 16384) (read_from l (lines_of text)) (refused_at Form 0)
