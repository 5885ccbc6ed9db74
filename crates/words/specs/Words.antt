-- What a refusal says: its number and line as the program writes them, and the notice, which names in words what the figure should have been.
-- Assumes nothing.
use mathlib.Core.List.{List, [], ◌∷◌, flatten}
use Rattle.std.specs.Prelude.{ℕ}
use Rattle.figures.specs.declared.Refusal.{Refusal}
use Rattle.figures.specs.declared.Refusal.TheVariants.{Distance, Height, Ground, Angle, Screen, Shadow, Reading, Row, Speed, Vehicles, Trains, Form, Contents, NoSegment, SegmentLimit, EntryLimit, NoEntry, FewCells, EntryNumber, NoSpeed}
use Rattle.figures.specs.Refusal.{number_of}
use Rattle.writing.specs.Bytes.{ascii, digits_of}

-- the rule that was not kept
unfoldable pub words_of : Refusal → List ℕ
words_of Distance = ascii "distance to the source line must be 1000 to 30000 cm"
words_of Height = ascii "window height must be -5000 to 5000 cm above the railhead, and mean height of propagation 0 to 5000 cm"
words_of Ground = ascii "share of soft ground must be 0 to 10 tenths"
words_of Angle = ascii "angle of view must be 5 to 180 degrees, and twice the angle alpha of Figure 9 from the angle of view to 180 degrees"
words_of Screen = ascii "screen must be 0, 1 or 2; source to screen 100 cm to 100 cm less than the distance; screen top -2000 to 5000 cm; Chart 6(c) reading 0 to 100 tenths, and 0 unless the screen is reflective (2); far wall's height 0 to 100 dm; the last four must be 0 without a screen, and ballast 0 with one"
words_of Shadow = ascii "window is in the screen's shadow and the path over the screen is more than 2.5 m longer than the straight one, beyond the chart"
words_of Reading = ascii "Table 1 reading must be 0 to 150 tenths, ballast reading -30 to 0 tenths, facade 0 or 1, and angle of opposite facades 0 degrees to the angle of view"
words_of Row = ascii "vehicle row must be 1 to 34: the row of Table A1.1, not its category number"
words_of Speed = ascii "speed must be 1 to 300 km/h"
words_of Vehicles = ascii "vehicles of a train must be 1 to 60"
words_of Trains = ascii "day trains and night trains must each be 0 to 2000"
words_of Form = ascii "out of form: a number has 1 to 5 digits, no decimal point and no spare zero, as 0, 75 or -30; one space between two numbers, no tab, second space or carriage return; a line feed ends every line, the last too; a segment has 15 numbers, a train 5, line 1 one more than segments; at most 16384 bytes"
words_of Contents = ascii "line 1 must give 1 to 24 segments, then each segment's number of train lines, 0 to 96 and 1 to 96 in all; every line that it promises must be there, and no other"
words_of NoSegment = ascii "a train entry needs a segment before it"
words_of SegmentLimit = ascii "a study has at most 24 segments"
words_of EntryLimit = ascii "a study has at most 96 train entries"
words_of NoEntry = ascii "levels need at least 1 train entry"
words_of FewCells = ascii "working cells must be at least 2 for each train entry"
words_of EntryNumber = ascii "train entry must be 1 to the number of train entries in the study"
words_of NoSpeed = ascii "no speed from 20 to 300 km/h keeps the total below the limit"

-- the number of a refusal and the line of the text
unfoldable pub refused_of : Refusal → ℕ → List ℕ
refused_of r line = flatten (ascii "refused " ∷ digits_of (number_of r) ∷ ascii " line " ∷ digits_of line ∷ [])

-- the same for a reader, with the program's name in front and the rule behind
unfoldable pub notice_of : Refusal → ℕ → List ℕ
notice_of r line = flatten (ascii "railnoise: " ∷ refused_of r line ∷ ascii ": " ∷ words_of r ∷ ascii "\n" ∷ [])
