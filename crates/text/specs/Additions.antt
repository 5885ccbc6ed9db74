-- The additions that a text's lines are, in order (01, "Contracts and evidence": the reading of a text "counts as the list of its segments and entries").
-- Assumes nothing.
use Rattle.std.specs.Prelude.{ℕ, List, [], ◌∷◌, ◌++◌, Option, None, Some, Result, Ok, Err}
use Rattle.figures.specs.declared.Segment.{Segment}
use Rattle.figures.specs.declared.Train.{Train}
use Rattle.figures.specs.declared.Refusal.{Refusal}
use Rattle.study.specs.Add.{Limits}
use Rattle.study.specs.Run.{Addition}
use Rattle.study.specs.Run as Run
use Rattle.lines.specs.Lines.{segment_of, train_of}
use Rattle.lines.specs.Contents.{contents_of}
use Rattle.text.specs.Text.{Line, ended, unended, lines_of, Kind, segment_kind, train_kind, kinds_of}

-- one addition, or none for a line that is malformed
abbrev pub segment_addition : Option Segment → List Addition
segment_addition None = []
segment_addition (Some s) = Run.segment s ∷ []

abbrev pub train_addition : Option Train → List Addition
train_addition None = []
train_addition (Some t) = Run.train t ∷ []

unfoldable pub line_additions : Kind → Line → List Addition
line_additions kind unended = []
line_additions segment_kind (ended line) = segment_addition (segment_of line)
line_additions train_kind (ended line) = train_addition (train_of line)

unfoldable pub lines_additions : List Kind → List Line → List Addition
lines_additions [] xs = []
lines_additions (p ∷ ps) [] = []
lines_additions (p ∷ ps) (x ∷ xs) = line_additions p x ++ lines_additions ps xs

-- those after the contents
abbrev pub body_additions : Result (List ℕ) Refusal → List Line → List Addition
body_additions (Err r) xs = []
body_additions (Ok cs) xs = lines_additions (kinds_of cs) xs

abbrev pub additions_in : Limits → List Line → List Addition
additions_in l [] = []
additions_in l (unended ∷ xs) = []
additions_in l (ended line ∷ xs) = body_additions (contents_of l line) xs

unfoldable pub additions_of : Limits → List ℕ → List Addition
additions_of l text = additions_in l (lines_of text)
