-- Levels written into cells: where there is room for all of them, and where there is none.
-- Assumes nothing.
use mathlib.Core.Path.{◌≡◌, sym, ap, ◌∙◌}
use mathlib.Core.List.{List, ◌++◌}
use Prim.Native.Nat.{ℕ, ◌+◌, ◌≤◌, ◌<◌}
use native.Mathlib.Omega.{arith}
use borrow.Author.Tests.{le-leb, lt-leb}
use lib.IntN.{ℤ}
use lib.ListN.{length, take, drop}
use lib.Seq.{paste, take_all}
use Rattle.request.specs.Request.{written}

module _ (levels cells : List ℤ) (at : ℕ) where
  pub no_room : length cells < at + length levels → cells ≡ written levels cells at
  unfolding written
  no_room h = simp (lt-leb (at + length levels) (length cells) h)

  room_for : at + length levels ≤ length cells → written levels cells at ≡ paste cells at levels (length levels)
  unfolding written
  room_for h =
      rw (le-leb (at + length levels) (length cells) h)
      (ap (λ (xs : List ℤ). take at cells ++ xs ++ drop (at + length levels) cells) (sym (take_all (length levels) levels (omega arith))))

  pub all_written : at + length levels ≤ length cells → {after : List ℤ} → after ≡ paste cells at levels (length levels) → after ≡ written levels cells at
  all_written h e = e ∙ sym (room_for h)

  -- and as callers with room for them read it
  pub as_pasted : at + length levels ≤ length cells → {after : List ℤ} → after ≡ written levels cells at → after ≡ paste cells at levels (length levels)
  as_pasted h e = e ∙ room_for h
