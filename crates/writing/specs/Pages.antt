-- What `put` ensures: bytes put at a place of a list, all of them or none.
-- Assumes nothing.
use Rattle.std.specs.Prelude.{◌≡◌, Bool, cond, List, ◌++◌, ℕ, ◌+◌, max, leb, length, take, drop}

-- the bytes that are written to, and the place of the next one
pub record Page : Type 0 where
  pub bytes : List ℕ
  pub place : ℕ

abbrev pub page : List ℕ → ℕ → Page
page out at = record { bytes = out; place = at }

-- is there room for so many bytes?
abbrev pub room : ℕ → Page → Bool
room n p = leb (p.place + n) (length p.bytes)

-- the new bytes at the place, what is before and after them as it was, and the place after them
abbrev pub placed : List ℕ → Page → Page
placed new p = page (take p.place p.bytes ++ new ++ drop (p.place + length new) p.bytes) (p.place + length new)

-- no byte more has room: what follows a part that did not fit is left out too, so that a page too short ends early and says nothing else
abbrev pub full : Page → Page
full p = page p.bytes (max p.place (length p.bytes))

-- where there is no room for all of them, the bytes stay and the page is full
unfoldable pub put_on : List ℕ → Page → Page
put_on new p = cond (room (length new) p) (placed new p) (full p)

-- what a writer of some bytes ensures of the list and of the place that it answers
pub record Put (before : List ℕ) (at : ℕ) (new after : List ℕ) (next : ℕ) : Type 0 where
  pub written : page after next ≡ put_on new (page before at)
