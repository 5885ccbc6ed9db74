-- What contracts of this crate's private functions cite: what one text gives.
-- Assumes nothing.
use Rattle.std.specs.Prelude.{◌≡◌, true, false, cond, List, [], ℕ, Option, None, Some, Ok}
use Rattle.decibel.specs.declared.Level.{Level}
use Rattle.figures.specs.declared.Period.TheVariants.{Day, Night}
use Rattle.figures.specs.declared.Periods.{Periods}
use Rattle.text.specs.declared.TextFault.{TextFault}
use Rattle.text.specs.Private.{TextRefused}
use Rattle.entitlement.specs.Entitlement.{reported_in}
use Rattle.railnoise_requests_c.specs.Entitlement.{Source, source, source_check, given_lines}

-- a text that is looked at, none where it is marked as empty; and such a text as C would hand it over
abbrev pub looked_at : Source → Option (List ℕ)
looked_at s = cond s.empty None (Some s.text)

abbrev pub source_of : Option (List ℕ) → Source
source_of None = source true []
source_of (Some text) = source false text

-- a text that is not refused gives the level of each period
pub record TextGives (s : Source) (r : Periods Level) : Type 0 where
  pub accepted : source_check s ≡ Ok tt
  pub day : r.day ≡ reported_in Day (given_lines s)
  pub night : r.night ≡ reported_in Night (given_lines s)

-- another its refusal; where none is looked at, none is refused
abbrev pub SourceRefused : ℕ → Option (List ℕ) → TextFault → Type 0
SourceRefused place None f = ⊥
SourceRefused place (Some text) f = TextRefused place text f
