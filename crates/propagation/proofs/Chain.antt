-- The chain of refusals of a segment: what an accepted one keeps, and how the code comes to its end.
-- Assumes nothing.
use mathlib.Core.Path.{◌≡◌, refl, sym, ◌∙◌, ap}
use mathlib.Core.Bool.{Bool, true, false, not, ◌||◌, true≢false, false≢true}
use mathlib.Core.List.{[], ◌∷◌}
use Prim.Native.Nat.{ℕ, ◌≤◌}
use lib.Dec.{leb}
use borrow.Author.Tests.{leb-true}
use Rattle.figures.specs.declared.Segment.{Segment}
use Rattle.figures.specs.declared.Refusal.{Refusal}
use Rattle.figures.specs.declared.Refusal.TheVariants.{Shadow, Reading}
use Rattle.figures.specs.Geometry.{in_shadow}
use Rattle.figures.specs.Refusal.{number_of, check_number, unless, first_refused, Check}
use Rattle.figures.specs.Rules.{unscreened, range_check, readings_kept, lowest_number}
use Rattle.figures.proofs.Kept.{first_kept, rest_kept, ranges_first, ranged, readings_ranged}
use Rattle.figures.proofs.Ranged.{Ranged}
use Rattle.figures.proofs.Numbers.{unless_number, ranges_number}
use Rattle.propagation.specs.Screen.{difference_of, path_difference, most_shadow, shadow_kept}
use Rattle.propagation.specs.Check.{segment_check, segment_lines}
use Rattle.propagation.specs.declared.kept.InRange.{InRange}
use Rattle.propagation.proofs.Ranges.{Ranges}
use Rattle.std.specs.Prelude.{Some, None, Ok, Err}

in_depth : (s : Segment) → shadow_kept s ≡ true → unscreened s ≡ false → in_shadow s ≡ true → path_difference s ≤ most_shadow
unfolding shadow_kept
in_depth s e f g = go (unscreened s) (in_shadow s) e f g
  where
    go : (x y : Bool) → (x || (not y || leb (path_difference s) most_shadow)) ≡ true → x ≡ false → y ≡ true → path_difference s ≤ most_shadow
    go true y e f g = absurd (true≢false f)
    go false true e f g = leb-true (path_difference s) most_shadow e
    go false false e f g = absurd (false≢true g)

-- what an accepted segment keeps
pub ranges : (s : Segment) → segment_check s ≡ Ok tt → Ranges s
unfolding segment_check
ranges s e =
    let r = ranged s _ e in
    record {
      ranged = r.0;
      readings = readings_ranged s r.0.view.sign (first_kept (readings_kept s) Reading _ (rest_kept (shadow_kept s) Shadow _ r.1));
      shadow = in_depth s (first_kept (shadow_kept s) Shadow _ r.1);
    }

-- a refusal by one of the first five lines stands
pub range_refused : (s : Segment) {k : Refusal} → range_check s ≡ Err k → segment_check s ≡ Err k
unfolding segment_check first_refused
range_refused s e = ranges_first s _ ∙ ap (λ (x : Check). first_refused x (unless (shadow_kept s) Shadow (unless (readings_kept s) Reading (Ok tt)))) e

-- where they are kept, the later lines decide
pub range_kept : (s : Segment) → range_check s ≡ Ok tt → segment_check s ≡ unless (shadow_kept s) Shadow (unless (readings_kept s) Reading (Ok tt))
unfolding segment_check first_refused
range_kept s e = ranges_first s _ ∙ ap (λ (x : Check). first_refused x (unless (shadow_kept s) Shadow (unless (readings_kept s) Reading (Ok tt)))) e

module _ (s : Segment) (kept : range_check s ≡ Ok tt) where
  pub shadowed : false ≡ shadow_kept s → segment_check s ≡ Err Shadow
  unfolding unless
  shadowed e = range_kept s kept ∙ simp (sym e)

  pub unread : true ≡ shadow_kept s → false ≡ readings_kept s → segment_check s ≡ Err Reading
  unfolding unless
  unread e f = range_kept s kept ∙ simp (sym e, sym f)

  pub all_kept : true ≡ shadow_kept s → true ≡ readings_kept s → segment_check s ≡ Ok tt
  unfolding unless
  all_kept e f = range_kept s kept ∙ simp (sym e, sym f)

-- what the lengths of a segment in range keep
pub in_range : (r : InRange) → Ranged r.segment
unfolding range_check
in_range r = (ranged r.segment (Ok tt) r.kept).0

-- ---- a check, and its number

pub segment_number_lem : (s : Segment) → check_number (segment_check s) ≡ lowest_number (segment_lines s)
unfolding segment_check segment_lines lowest_number check_number number_of
segment_number_lem s = ranges_number s _ ((6, shadow_kept s) ∷ (7, readings_kept s) ∷ []) (simp unless_number)

pub segment_checked : (s : Segment) {r : Check} → r ≡ segment_check s → (r ≡ segment_check s) × (check_number r ≡ lowest_number (segment_lines s))
segment_checked s e = (e, ap check_number e ∙ segment_number_lem s)

-- where there is a screen, and where there is none
pub with_screen : (s : Segment) (m : ℕ) → Some m ≡ difference_of s → (unscreened s ≡ false) × (m ≡ path_difference s)
unfolding difference_of
with_screen s m e = go (unscreened s) refl
  where
    go : (b : Bool) → unscreened s ≡ b → (unscreened s ≡ false) × (m ≡ path_difference s)
    go true i = absurd (cc)
    go false i = (i, cc)

pub no_screen : (s : Segment) → None ≡ difference_of s → unscreened s ≡ true
unfolding difference_of
no_screen s e = go (unscreened s) refl
  where
    go : (b : Bool) → unscreened s ≡ b → unscreened s ≡ true
    go true i = i
    go false i = absurd (cc)

-- line 6 by the path difference
pub shadow_is : (s : Segment) (m : ℕ) {b : Bool} → Some m ≡ difference_of s → b ≡ in_shadow s → (not b || leb m most_shadow) ≡ shadow_kept s
unfolding shadow_kept
shadow_is s m d f = let p = with_screen s m d in rw (p.0, p.1, f) refl

pub no_shadow : (s : Segment) → None ≡ difference_of s → true ≡ shadow_kept s
unfolding shadow_kept
no_shadow s e = rw (no_screen s e) refl
