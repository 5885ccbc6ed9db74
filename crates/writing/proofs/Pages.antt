-- Laws of what is put at a place: past the end, without room and with room.
-- Assumes nothing.
use mathlib.Core.Path.{◌≡◌, refl, sym}
use mathlib.Core.List.{List}
use Prim.Native.Nat.{ℕ, ◌+◌, ◌<◌, ◌≤◌, max}
use native.Mathlib.Nat.{max-eq_left, max-eq_right}
use native.Mathlib.Omega.{arith}
use borrow.Author.Tests.{le-leb, lt-leb}
use lib.ListN.{length}
use lib.Seq.{paste, take-length}
use Rattle.writing.specs.Pages.{page, placed, put_on, Put}

put_fits : (before : List ℕ) (at : ℕ) (new : List ℕ) → at + length new ≤ length before → put_on new (page before at) ≡ placed new (page before at)
unfolding put_on
put_fits before at new h = rw (le-leb (at + length new) (length before) h)

pub put_past : (before : List ℕ) (at : ℕ) (new : List ℕ) → length before < at → Put before at new before at
unfolding put_on
put_past before at new h = let past : max at (length before) ≡ at = max-eq_left (omega arith) in record { written = rw (lt-leb (at + length new) (length before) (omega arith), past) refl }

pub put_full : (before : List ℕ) (at : ℕ) (new : List ℕ) → at ≤ length before → length before < at + length new → Put before at new before (length before)
unfolding put_on
put_full before at new l h = let within : max at (length before) ≡ length before = max-eq_right l in record { written = rw (lt-leb (at + length new) (length before) h, within) refl }

pub put_pasted : (before : List ℕ) (at : ℕ) (new : List ℕ) {after : List ℕ}
    → at + length new ≤ length before
    → after ≡ paste before at new (length new)
    → Put before at new after (at + length new)
put_pasted before at new h pasted = record { written = rw (pasted, take-length new) (sym (put_fits before at new h)) }
