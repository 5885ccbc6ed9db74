-- Refusals and their numbers (01, "Turned back"; 02, L6).
-- Assumes nothing.
use Rattle.std.specs.Prelude.{ℕ, Bool, true, false, Result, Ok, Err}
use Rattle.figures.specs.declared.Refusal.{Refusal}
use Rattle.figures.specs.declared.Refusal.TheVariants.{Distance, Height, Ground, Angle, Screen, Shadow, Reading, Row, Speed, Vehicles, Trains, Form, Contents, NoSegment, SegmentLimit, EntryLimit, NoEntry, FewCells, EntryNumber, NoSpeed}

-- the number of each refusal: 01's, then those that a request of 02 has added
unfoldable pub number_of : Refusal → ℕ
number_of Distance = 1
number_of Height = 2
number_of Ground = 3
number_of Angle = 4
number_of Screen = 5
number_of Shadow = 6
number_of Reading = 7
number_of Row = 8
number_of Speed = 9
number_of Vehicles = 10
number_of Trains = 11
number_of Form = 12
number_of Contents = 13
number_of NoSegment = 20
number_of SegmentLimit = 21
number_of EntryLimit = 22
number_of NoEntry = 23
number_of FewCells = 24
number_of EntryNumber = 25
number_of NoSpeed = 26

-- what a test of figures or of a study answers: accepted, or why not
abbrev pub Check : Type 0
Check = Result (Unit {0}) Refusal

-- its number: 0 where nothing is refused
unfoldable pub check_number : Check → ℕ
check_number (Ok _) = 0
check_number (Err r) = number_of r

-- the refusal where its line is not kept, else what the later lines say
unfoldable pub unless : Bool → Refusal → Check → Check
unless true r rest = rest
unless false r rest = Err r

-- the first of two checks where it refuses, else the second
unfoldable pub first_refused : Check → Check → Check
first_refused (Ok _) second = second
first_refused (Err r) second = Err r

-- a value where a check accepts, else the refusal
unfoldable pub answered : {A : Type 0} → Check → A → Result A Refusal
answered (Ok _) x = Ok x
answered (Err r) x = Err r

-- the check of such an answer
unfoldable pub check_of : {A : Type 0} → Result A Refusal → Check
check_of (Ok _) = Ok tt
check_of (Err r) = Err r
