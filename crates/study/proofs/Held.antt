-- A list held in an array: one more.
-- Assumes nothing.
use mathlib.Core.Path.{◌≡◌, sym, ap, ◌∙◌}
use mathlib.Core.List.{List, [], ◌∷◌, ◌++◌}
use Prim.Native.Nat.{ℕ, ◌+◌, ◌-◌, ◌<◌}
use native.Mathlib.Omega.{arith}
use lib.ListN.{length, drop, set, replicate}
use Rattle.std.proofs.lemmas.List.{length-take-le, take-append-drop, length-set, drop-replicate, drop-set-lt, take_more_set}
use Rattle.std.proofs.Math.Seq.{drop-append-add}
use Rattle.study.specs.Held.{Held, held_by, laid_out}

module _ {A : Type 0} {most : ℕ} {blank : A} where
  module _ {count : ℕ} {places : List A} (held : Held most blank count places) where
    pub held_length : length (held_by count places) ≡ count
    held_length = length-take-le count places (omega (arith, held.room, held.whole))

    -- the places past those taken
    blanks : drop (count + 1) places ≡ replicate (most - (count + 1)) blank
    blanks =
        ap (drop (count + 1)) (sym held.rest)
        ∙ ap (λ (n : ℕ). drop (n + 1) (laid_out most blank (held_by count places))) (sym held_length)
        ∙ drop-append-add (held_by count places) _ 1
        ∙ drop-replicate 1 _ blank
        ∙ ap (λ (n : ℕ). replicate n blank) (omega (arith, held_length))

    module _ (x : A) (room : count < most) where
      within : count < length places
      within = omega (arith, room, held.whole)

      pub one_more : held_by (count + 1) (set places count x) ≡ held_by count places ++ (x ∷ [])
      one_more = take_more_set places count x within

      pub more_held : Held most blank (count + 1) (set places count x)
      more_held =
          let long = length-set places count x in
          let all = length-take-le (count + 1) (set places count x) (omega (arith, long, within)) in
          record {
            room = omega (arith, room);
            whole = long ∙ held.whole;
            rest =
                ap (λ (n : ℕ). held_by (count + 1) (set places count x) ++ replicate (most - n) blank) all
                ∙ ap (λ (ys : List A). held_by (count + 1) (set places count x) ++ ys) (sym blanks ∙ sym (drop-set-lt (count + 1) places count x (omega arith)))
                ∙ take-append-drop (count + 1) (set places count x);
          }
