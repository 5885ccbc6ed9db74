-- A figure that is compared with one number: the range from that number to itself.
-- Assumes nothing.
use mathlib.Core.Path.{◌≡◌, refl, sym, ◌∙◌, ap}
use mathlib.Core.Bool.{Bool, true, false}
use Prim.Native.Nat.{ℕ, ◌<◌, ◌^◌}
use native.Mathlib.Omega.{arith}
use lib.Dec.{eqb, lit<}
use lib.Signed.{mag}
use borrow.Author.Tests.{eqb-true}
use lib.IntN.{ℤ, pos, negsuc}
use mir.Syntax.{w32}
use mir.Val.{to_z, of_z}
use Rattle.std.proofs.lemmas.Bool.Decides.{nat_tests}
use Rattle.figures.specs.Rules.{within, unscreened}
use Rattle.figures.specs.declared.Segment.{Segment}
use Rattle.decibel.proofs.Words.{back}
use Rattle.figures.proofs.Signs.{read, cast_read}

pub one_number : (k : ℕ) (z : ℤ) → k < 1000000 → read z ≡ z → eqb (of_z w32 z) k ≡ within (pos k) (pos k) z
one_number k (pos n) h r = grind (arith, nat_tests)
one_number k (negsuc n) h r = go (eqb (of_z w32 (negsuc n)) k) refl
  where
    go : (b : Bool) → eqb (of_z w32 (negsuc n)) k ≡ b → b ≡ false
    go true e = let l : of_z w32 (negsuc n) ≡ k = eqb-true _ k e in absurd (cc (sym (cast_read k h) ∙ ap (to_z w32) (sym l) ∙ r))
    go false e = refl

-- no screen, of a number that fits its type
pub screen_none : (s : Segment) → mag s.screen < 2 ^ 31 → eqb (of_z w32 s.screen) 0 ≡ unscreened s
unfolding unscreened
screen_none s f = one_number 0 s.screen (lit< tt) (back s.screen f)
