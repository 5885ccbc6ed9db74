-- Two levels in working cells: what the total hears of them, and when one exceeds the other.
-- Assumes nothing.
use mathlib.Core.Path.{◌≡◌, refl, ap, ◌∙◌, subst}
use mathlib.Core.Bool.{Bool, true, false, cond}
use mathlib.Core.List.{List, [], ◌∷◌}
use lib.IntN.{ℤ, pos, negsuc, ◌+ℤ◌}
use lib.Signed.{le_z, lt_z}
use lib.ListN.{take}
use Rattle.decibel.specs.declared.Level.{Level}
use Rattle.decibel.specs.declared.Level.TheVariants.{Silent, Figure}
use Rattle.energy.specs.declared.Total.{Total}
use Rattle.energy.specs.Total.{heard, TotalMark}
use Rattle.energy.specs.Mark.{total_of}
use Rattle.energy.proofs.Whole.{mark_allowed}
use Rattle.request.specs.Levels.{figures, cell_of}
use Rattle.entitlement.specs.declared.Change.{Change}
use Rattle.entitlement.specs.Conditions.{combined, exceeds, ChangeAllowed}
use Rattle.entitlement.specs.Entitlement.{held, held_change}

-- ---- what is heard of two cells

held_more : (l : Level) (cs : List ℤ) (ls : List Level) → heard cs ≡ figures ls → heard (cell_of l ∷ cs) ≡ figures (held l ∷ ls)
unfolding heard figures cell_of
held_more Silent cs ls e = e
held_more (Figure r) cs ls e = go (lt_z r (negsuc 1999))
  where
    top : ℤ
    top = cond (lt_z (pos 2000) r) (pos 2000) r

    go : (b : Bool) → cond b (heard cs) (top ∷ heard cs) ≡ figures (cond b Silent (Figure top) ∷ ls)
    go true = e
    go false = ap (λ (xs : List ℤ). top ∷ xs) e

both_held : (a b : Level) → heard (cell_of a ∷ cell_of b ∷ []) ≡ figures (held a ∷ held b ∷ [])
unfolding heard figures
both_held a b = held_more a (cell_of b ∷ []) (held b ∷ []) (held_more b [] [] refl)

-- their total
pub total_held : (a b : Level) {x y : ℤ} {r : Total} → x ≡ cell_of a → y ≡ cell_of b → r ≡ total_of (heard (take 96 (x ∷ y ∷ []))) → r ≡ combined (held a) (held b)
unfolding combined
total_held a b e f t = t ∙ rw (e, f) (ap total_of (both_held a b))

-- and 01 allows its mark
pair_allowed : (a b : Level) → TotalMark (figures (held a ∷ held b ∷ [])) (combined (held a) (held b)).close
unfolding combined
pair_allowed a b = subst (λ (ls : List ℤ). TotalMark ls (total_of ls).close) (both_held a b) (mark_allowed (cell_of a ∷ cell_of b ∷ []) refl)

pub change_allowed : (c : Change) → ChangeAllowed (held_change c)
unfolding held_change
change_allowed c = record { prevailing = pair_allowed c.before.altered c.before.other; relevant = pair_allowed c.after.altered c.after.other }

-- ---- when one exceeds the other

pub figure_exceeds : {l o : Level} {f g : ℤ} {r : Bool} → l ≡ Figure f → o ≡ Figure g → r ≡ le_z (g +ℤ pos 10) f → r ≡ exceeds l o
unfolding exceeds
figure_exceeds e h q = q ∙ rw (e, h)
