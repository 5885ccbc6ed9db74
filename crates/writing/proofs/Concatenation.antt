-- Laws of parts put one after another: the text so far and what there is room for of the rest are the whole, and parts that all have room are all put.
-- Assumes nothing.
use mathlib.Core.Path.{◌≡◌, refl, sym, ◌∙◌}
use mathlib.Core.List.{List, [], ◌∷◌, ◌++◌, append_assoc, append-nil, flatten, map}
use Prim.Native.Nat.{ℕ, ◌+◌, ◌-◌, ◌<◌, ◌≤◌}
use native.Mathlib.Omega.{arith}
use borrow.Author.Tests.{le-leb, lt-leb}
use lib.ListN.{length, length-append, get_or, drop, drop_of_length-le}
use Rattle.std.proofs.lemmas.List.{drop_more}
use Rattle.writing.specs.Bytes.{fitting}

pub all_fit : (room : ℕ) (parts : List (List ℕ)) → length (flatten parts) ≤ room → fitting room parts ≡ flatten parts
unfolding fitting flatten
all_fit room [] h = refl
all_fit room (part ∷ rest) h =
    let sizes : length (part ++ flatten rest) ≤ room = h in
    let both : length part + length (flatten rest) ≤ room = rw (length-append part (flatten rest)) at sizes in
    rw (le-leb (length part) room (omega arith), all_fit (room - length part) rest (omega arith))

-- what the parts are as one
pub fits_as : (room : ℕ) (parts : List (List ℕ)) {bytes : List ℕ} → flatten parts ≡ bytes → length bytes ≤ room → fitting room parts ≡ bytes
fits_as room parts e h = all_fit room parts (rw e h) ∙ e

pub fits_two : (room : ℕ) (p q : List ℕ) → length p + length q ≤ room → fitting room (p ∷ q ∷ []) ≡ p ++ q
unfolding flatten
fits_two room p q h = fits_as room (p ∷ q ∷ []) (rw (append-nil q) refl) (rw (length-append p q) h)

-- there is room for the next part, or there is not
fits_next : (room : ℕ) (part : List ℕ) (rest : List (List ℕ)) → length part ≤ room → fitting room (part ∷ rest) ≡ part ++ fitting (room - length part) rest
unfolding fitting
fits_next room part rest h = rw (le-leb (length part) room h) refl

stops_next : (room : ℕ) (part : List ℕ) (rest : List (List ℕ)) → room < length part → fitting room (part ∷ rest) ≡ []
unfolding fitting
stops_next room part rest h = rw (lt-leb (length part) room h) refl

fits_none : (room : ℕ) → fitting room [] ≡ []
unfolding fitting
fits_none room = refl

module _ {A : Type 0} (bytes_of : A → List ℕ) (room : ℕ) (parts : List A) where
  -- with the first k parts put
  pub record Put (k : ℕ) (bytes : List ℕ) : Type 0 where
    pub whole : bytes ++ fitting (room - length bytes) (map bytes_of (drop k parts)) ≡ fitting room (map bytes_of parts)

  pub put_none : (bytes : List ℕ) → bytes ≡ [] → Put 0 bytes
  put_none bytes e = let all : room - 0 ≡ room = omega arith in record { whole = rw (e, all) refl }

  pub put_all : {k : ℕ} {bytes : List ℕ} → Put k bytes → length parts ≤ k → bytes ≡ fitting room (map bytes_of parts)
  put_all {k} {bytes} so_far h =
      sym (append-nil bytes) ∙ rw (← fits_none (room - length bytes)) (rw (drop_of_length-le parts h) at so_far.whole)

  module _ {k : ℕ} {bytes : List ℕ} (so_far : Put k bytes) (next : A) where
    left : k < length parts → bytes ++ fitting (room - length bytes) (bytes_of (get_or parts k next) ∷ map bytes_of (drop (k + 1) parts)) ≡ fitting room (map bytes_of parts)
    left h = rw (drop_more parts k next h) at so_far.whole

    pub put_more : {more : List ℕ}
        → k < length parts
        → length bytes + length (bytes_of (get_or parts k next)) ≤ room
        → more ≡ bytes ++ bytes_of (get_or parts k next)
        → Put (k + 1) more
    put_more h fits e =
        let part : List ℕ = bytes_of (get_or parts k next) in
        let rest : List (List ℕ) = map bytes_of (drop (k + 1) parts) in
        let over : room - (length bytes + length part) ≡ room - length bytes - length part = omega arith in
        record {
          whole =
              rw (e, length-append bytes part, over) (append_assoc bytes part (fitting (room - length bytes - length part) rest)
              ∙ rw (sym (fits_next (room - length bytes) part rest (omega arith))) (left h));
        }

    pub put_full : k < length parts → room < length bytes + length (bytes_of (get_or parts k next)) → length bytes ≤ room → bytes ≡ fitting room (map bytes_of parts)
    put_full h full within =
        let part : List ℕ = bytes_of (get_or parts k next) in
        let rest : List (List ℕ) = map bytes_of (drop (k + 1) parts) in
        sym (append-nil bytes) ∙ rw (sym (stops_next (room - length bytes) part rest (omega arith))) (left h)
