-- What contracts of this crate's private functions cite: the parts of a request for levels.
-- Assumes nothing.
use Rattle.std.specs.Prelude.{◌≡◌, Bool, false, ◌&&◌, ◌||◌, List, ℕ, ◌≤◌, ◌<◌, ℤ, set, get_or}
use Rattle.study.specs.Add.{ours}
use Rattle.request.specs.Request.{sounds_at, count_to}

-- how many of the 24 places are close and heard in some levels
pub record CloseSegments (cells : List ℤ) (places : List ℕ) (close : List Bool) (r : ℕ) : Type 0 where
  pub is : r ≡ count_to (λ k. get_or close k false && sounds_at k places cells) ours.segments
  pub most : r ≤ ours.segments

-- the segment at a place marked as heard, if it sounds; past the last nothing is
unfoldable pub marked_by : List Bool → ℕ → Bool → List Bool
marked_by heard k sounds = set heard k (get_or heard k false || sounds)

-- which segments have an entry with a level
pub record SegmentsHeard (places : List ℕ) (cells : List ℤ) (heard : List Bool) : Type 0 where
  pub each : (k : ℕ) → k < ours.segments → get_or heard k false ≡ sounds_at k places cells
