-- Laws of the number at a place of a line, and of the place behind it.
-- Assumes nothing.
use Rattle.std.proofs.Common.{◌≡◌, ℕ, suc, ◌+◌, ◌-◌, ◌<◌, ◌≤◌, Bool, true, false, cond, eqb, List, [], ◌∷◌, length, drop, ℤ, Option, None, Some, sym, refl, ap, ◌∙◌, arith, length-drop, le-leb, w32, SFits, to_z, of_z, to_z-of_z}
use borrow.Author.Tests.{lt-leb}
use Rattle.lines.specs.Bytes.{until, past}
use Rattle.lines.specs.Numbers.{value_of, values_of, first_number, number_as, number_at}
use Rattle.lines.specs.Private.{InFront}
use Rattle.lines.proofs.Values.{values_first}

-- how many bytes stand before a separator, where it is there and where it is not
stopped : (sep : ℕ) (s r : List ℕ) → past sep s ≡ Some r → length (until sep s) + 1 + length r ≡ length s
unfolding until past
stopped sep [] r e = cc
stopped sep (b ∷ bs) r e = go (eqb b sep) (stopped sep bs r) e
  where
    go : (t : Bool) → (past sep bs ≡ Some r → length (until sep bs) + 1 + length r ≡ length bs) → cond t (Some bs) (past sep bs) ≡ Some r
        → length (cond t [] (b ∷ until sep bs)) + 1 + length r ≡ suc (length bs)
    go true f q = let z : bs ≡ r = cc in omega (arith, ap length z)
    go false f q = omega (arith, f q)

unstopped : (sep : ℕ) (s : List ℕ) → past sep s ≡ None → length (until sep s) ≡ length s
unfolding until past
unstopped sep [] e = refl
unstopped sep (b ∷ bs) e = go (eqb b sep) (unstopped sep bs) e
  where
    go : (t : Bool) → (past sep bs ≡ None → length (until sep bs) ≡ length bs) → cond t (Some bs) (past sep bs) ≡ None → length (cond t [] (b ∷ until sep bs)) ≡ suc (length bs)
    go true f q = cc
    go false f q = omega (arith, f q)

module _ (line : List ℕ) (at : ℕ) where
  pub none_past : length line < at → None ≡ number_at line at
  unfolding number_at
  none_past h = rw (lt-leb at (length line) h)

  -- from what stands in front of the words there
  module _ (h : at ≤ length line) {words : List ℕ} (w : words ≡ drop at line) where
    read_at : number_at line at ≡ number_as (value_of (until 32 words)) (at + length (until 32 words) + 1)
    unfolding number_at
    read_at = rw (le-leb at (length line) h, w)

    many : length words ≡ length line - at
    many = ap length w ∙ length-drop at line

    pub none_there : first_number (values_of words) ≡ None → None ≡ number_at line at
    unfolding number_as
    none_there e =
        let none : value_of (until 32 words) ≡ None = sym (ap first_number (values_first words)) ∙ e in
        rw (read_at, none)

    module _ {v : ℤ} (f : SFits w32 v) where
      there : {left : Option (List ℕ)} {next : ℕ} → InFront words v left → next ≡ at + length (until 32 words) + 1 → Some (to_z w32 (of_z w32 v), next) ≡ number_at line at
      unfolding number_as
      there {left} {next} i e =
          let some : value_of (until 32 words) ≡ Some v = cc (values_first words, i.values) in
          rw (to_z-of_z f, e, read_at, some)

      pub left_fits : {left : List ℕ} → InFront words v (Some left) → length left ≤ length line
      left_fits {left} i = omega (arith, stopped 32 words left i.behind, many)

      pub some_there : {left : List ℕ} → InFront words v (Some left) → Some (to_z w32 (of_z w32 v), length line - length left) ≡ number_at line at
      some_there {left} i = there i (omega (arith, stopped 32 words left i.behind, many))

      pub last_there : InFront words v None → Some (to_z w32 (of_z w32 v), length line + 1) ≡ number_at line at
      last_there i = there i (omega (arith, unstopped 32 words i.behind, many))
