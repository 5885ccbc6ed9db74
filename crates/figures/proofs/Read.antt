-- What is known of a struct's figures where they are read: each fits its type, so what is read back is the figure.
-- Assumes nothing.
use mathlib.Core.Path.{◌≡◌}
use denote.Laws.{valss}
use denote.Struct.Struct.{AreAll}
use denote.Struct.Declared.{Declared, fields}
use denote.Struct.Laws.{Laws, spells}
use Rattle.decibel.proofs.Words.{back}
use Rattle.figures.specs.declared.Segment.{Segment}
use Rattle.figures.specs.declared.Train.{Train}
use Rattle.figures.proofs.Signs.{read}
use Rattle.figures.specs.contracts.Segment.{the_type as segment-type}
use Rattle.figures.proofs.Segment.TheLaws.{the_laws as segment-laws}
use Rattle.figures.specs.contracts.Train.{the_type as train-type}
use Rattle.figures.proofs.Train.TheLaws.{the_laws as train-laws}

-- what the borrow checker gives of a struct's value
abbrev Told : (T : Declared) → Laws T → T.D → Type 0
Told T L v = AreAll (fields T) (T.to v) (valss (fields T) (spells T.parts L) (T.to v))

pub record Read (s : Segment) : Type 0 where
  pub distance : read s.distance ≡ s.distance
  pub height : read s.height ≡ s.height
  pub mean : read s.mean ≡ s.mean
  pub soft : read s.soft ≡ s.soft
  pub view : read s.view ≡ s.view
  pub doubled : read s.doubled ≡ s.doubled
  pub screen : read s.screen ≡ s.screen
  pub setback : read s.setback ≡ s.setback
  pub top : read s.top ≡ s.top
  pub chart : read s.chart ≡ s.chart
  pub track : read s.track ≡ s.track
  pub ballast : read s.ballast ≡ s.ballast
  pub facade : read s.facade ≡ s.facade
  pub opposite : read s.opposite ≡ s.opposite
  pub wall : read s.wall ≡ s.wall

pub segment_read : (s : Segment) → Told segment-type segment-laws s → Read s
segment_read s g =
    record {
      distance = back s.distance g.0.1;
      height = back s.height g.1.0.1;
      mean = back s.mean g.1.1.0.1;
      soft = back s.soft g.1.1.1.0.1;
      view = back s.view g.1.1.1.1.0.1;
      doubled = back s.doubled g.1.1.1.1.1.0.1;
      screen = back s.screen g.1.1.1.1.1.1.0.1;
      setback = back s.setback g.1.1.1.1.1.1.1.0.1;
      top = back s.top g.1.1.1.1.1.1.1.1.0.1;
      chart = back s.chart g.1.1.1.1.1.1.1.1.1.0.1;
      track = back s.track g.1.1.1.1.1.1.1.1.1.1.0.1;
      ballast = back s.ballast g.1.1.1.1.1.1.1.1.1.1.1.0.1;
      facade = back s.facade g.1.1.1.1.1.1.1.1.1.1.1.1.0.1;
      opposite = back s.opposite g.1.1.1.1.1.1.1.1.1.1.1.1.1.0.1;
      wall = back s.wall g.1.1.1.1.1.1.1.1.1.1.1.1.1.1.0.1;
    }

pub record TrainRead (t : Train) : Type 0 where
  pub row : read t.row ≡ t.row
  pub speed : read t.speed ≡ t.speed
  pub vehicles : read t.vehicles ≡ t.vehicles
  pub day : read t.day ≡ t.day
  pub night : read t.night ≡ t.night

pub train_read : (t : Train) → Told train-type train-laws t → TrainRead t
train_read t g =
    record {
      row = back t.row g.0.1;
      speed = back t.speed g.1.0.1;
      vehicles = back t.vehicles g.1.1.0.1;
      day = back t.day g.1.1.1.0.1;
      night = back t.night g.1.1.1.1.0.1;
    }
