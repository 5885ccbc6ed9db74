-- What is read of a breakdown's figures: each is small, so what is read back is the figure.
-- Assumes nothing.
use mathlib.Core.Path.{◌≡◌}
use native.Mathlib.Omega.{arith}
use lib.IntN.{ℤ, pos, negsuc}
use lib.ListN.{length}
use Prim.Native.Nat.{◌≤◌}
use mir.Facts.{to_z-of_z}
use mir.Syntax.{w32}
use mir.Val.{SFits}
use Rattle.figures.specs.Bounds.{Below}
use Rattle.figures.proofs.Signs.{read}
use Rattle.propagation.specs.declared.SegmentBreakdown.{SegmentBreakdown}
use Rattle.propagation.specs.Results.{PartsBelow}
use Rattle.emission.specs.declared.TrainBreakdown.{TrainBreakdown}
use Rattle.emission.specs.Results.{TrainParted}
use Rattle.writing.specs.Bytes.{figure_of}
use Rattle.writing.proofs.Lengths.{figure_length}

small_fits : (z : ℤ) → Below 2000 z → SFits w32 z
small_fits (pos n) h = record { sfits = omega (arith, h.most, h.least) }
small_fits (negsuc n) h = record { sfits = omega (arith, h.most, h.least) }

pub small_length : (z : ℤ) → Below 2000 z → length (figure_of z) ≤ 12
small_length z h = figure_length z (small_fits z h)

small_read : (z : ℤ) → Below 2000 z → read z ≡ z
small_read z h = to_z-of_z (small_fits z h)

pub record SegmentRead (b : SegmentBreakdown) : Type 0 where
  pub distance : read b.distance ≡ b.distance
  pub air : read b.air ≡ b.air
  pub angle : read b.angle ≡ b.angle
  pub opposite : read b.opposite ≡ b.opposite
  pub path : read b.path ≡ b.path
  pub facade : read b.facade ≡ b.facade
  pub chart : read b.chart ≡ b.chart
  pub track : read b.track ≡ b.track
  pub ballast : read b.ballast ≡ b.ballast

pub segment_read : (b : SegmentBreakdown) → PartsBelow b → SegmentRead b
segment_read b h =
    record {
      distance = small_read b.distance h.distance;
      air = small_read b.air h.air;
      angle = small_read b.angle h.angle;
      opposite = small_read b.opposite h.opposite;
      path = small_read b.path h.path;
      facade = small_read b.facade h.facade;
      chart = small_read b.chart h.chart;
      track = small_read b.track h.track;
      ballast = small_read b.ballast h.ballast;
    }

pub record TrainRead (b : TrainBreakdown) : Type 0 where
  pub speed : read b.speed ≡ b.speed
  pub vehicles : read b.vehicles ≡ b.vehicles
  pub rolling : read b.rolling ≡ b.rolling

pub train_read : {v : TrainBreakdown} (b : TrainBreakdown) → TrainParted v b → TrainRead b
train_read b h =
    record { speed = small_read b.speed h.speed; vehicles = small_read b.vehicles h.vehicles; rolling = small_read b.rolling h.rolling }
