-- Levels and verdicts as the bytes that are written for them (01, "The text").
-- Assumes nothing.
use Rattle.std.specs.Prelude.{Bool, true, false, List, ℕ}
use Rattle.decibel.specs.declared.Level.{Level}
use Rattle.decibel.specs.declared.Level.TheVariants.{Silent, Figure}
use Rattle.writing.specs.Bytes.{ascii, figure_of}

unfoldable pub level : Level → List ℕ
level Silent = ascii "silent"
level (Figure tenths) = figure_of tenths

-- a verdict's word
unfoldable pub verdict : Bool → List ℕ
verdict true = ascii "yes"
verdict false = ascii "no"
