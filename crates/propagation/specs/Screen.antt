-- The screen step (01, "The steps"; paragraph 24, Figure 4, Charts 6(a) and 6(b)), reduced for a wall on the far side (02, L1; paragraphs 28 and 29), and line 6.
-- Assumes nothing.
use Rattle.std.specs.Prelude.{Bool, true, false, cond, not, ◌||◌, ℕ, zero, suc, ◌+◌, ◌-◌, ◌*◌, ◌/◌, leb, ℤ, pos, negsuc, ◌+ℤ◌, ◌-ℤ◌, ◌≤ℤ◌, Option, Some, None}
use Rattle.decibel.specs.Ints.{up}
use Rattle.decibel.specs.Greatest.{whole_root}
use Rattle.decibel.specs.Log.{fence}
use Rattle.figures.specs.declared.Segment.{Segment}
use Rattle.figures.specs.Geometry.{slant, slant_square, in_shadow}
use Rattle.figures.specs.Rules.{unscreened}

-- a length from its square: its root cut down to a whole number of hundred-thousandths of a centimetre
unfoldable pub length_of : ℕ → ℕ
length_of n = whole_root 2 (10000000000 * n)

-- δ: source to screen top and top to window, less source to window, never below zero
unfoldable pub path_difference : Segment → ℕ
path_difference s =
    length_of (slant s.setback s.top) + length_of (slant (s.distance -ℤ s.setback) (s.height -ℤ s.top))
    - length_of (slant_square s)

-- δ where there is a screen
unfoldable pub difference_of : Segment → Option ℕ
difference_of s = cond (unscreened s) None (Some (path_difference s))

-- 2.5 m, in ten-millionths of a metre as δ is
abbrev pub most_shadow : ℕ
most_shadow = 25000000

-- 6: in shadow, δ at most 2.5 m
unfoldable pub shadow_kept : Segment → Bool
shadow_kept s = unscreened s || (not (in_shadow s) || leb (path_difference s) most_shadow)

-- in shadow -7.75 log(5.2 + 203 δ); illuminated 0.88 + 2.14 log(δ + 0.001) up to 0.4 m, beyond it 0
unfoldable pub screen_formula : Bool → ℕ → ℤ
screen_formula true m = fence 0 7750000 10000000 (52000000 + 203 * m)
screen_formula false m = cond (leb m 4000000) (fence 880000 2140000 (m + 10000) 10000000) (pos 0)

-- ---- a wall on the far side

-- its height to the nearest metre, halves up; below 15 decimetres it does nothing. The rounding is part of the formula, and so of the bare level
unfoldable pub wall_metres : Segment → ℕ
wall_metres s = cond (leb 15 (up s.wall)) ((up s.wall + 5) / 10) 0

-- what it takes off the screen correction, in microdecibels: 0.5 dB a metre
unfoldable pub wall_loss : Segment → ℕ
wall_loss s = 500000 * wall_metres s

-- zero if it would be above zero
unfoldable pub at_most_zero : ℤ → ℤ
at_most_zero (pos n) = pos 0
at_most_zero (negsuc n) = negsuc n

-- a correction after a loss, both in one unit: where there is a loss, it is at most zero
unfoldable pub reduced : (loss : ℕ) → ℤ → ℤ
reduced zero correction = correction
reduced (suc k) correction = at_most_zero (correction +ℤ pos (suc k))

-- the same of an exact value, known by the whole numbers Low that it is at least: after the loss it is at least m
unfoldable pub ReducedAtLeast : (loss : ℕ) → (Low : ℤ → Type 0) → ℤ → Type 0
ReducedAtLeast zero Low m = Low m
ReducedAtLeast (suc k) Low m = (m ≤ℤ pos 0) × Low (m -ℤ pos (suc k))

-- the screen step, before the Chart 6(c) reading, which the level adds beside it
unfoldable pub screen_fence : Segment → ℤ
screen_fence s = reduced (wall_loss s) (screen_formula (in_shadow s) (path_difference s))
