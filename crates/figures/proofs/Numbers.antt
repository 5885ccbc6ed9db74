-- The number of the first line that is not kept: a chain of lines, by its numbers.
-- Assumes nothing.
use mathlib.Core.Path.{◌≡◌, refl}
use mathlib.Core.Bool.{Bool, true, false, cond, not}
use mathlib.Core.List.{List, ◌++◌}
use Prim.Native.Nat.{ℕ}
use Rattle.figures.specs.declared.Segment.{Segment}
use Rattle.figures.specs.declared.Train.{Train}
use Rattle.figures.specs.declared.Refusal.{Refusal}
use Rattle.std.specs.Prelude.{Ok, Err}
use Rattle.figures.specs.Refusal.{number_of, check_number, unless, first_refused, Check, answered, check_of}
use Rattle.figures.specs.Rules.{ranges_then, train_check, lowest_number, range_lines, train_lines}

-- one line of a chain
pub unless_number : (kept : Bool) (r : Refusal) (rest : Check) → check_number (unless kept r rest) ≡ cond kept (check_number rest) (number_of r)
unfolding unless check_number
unless_number true r rest = refl
unless_number false r rest = refl

-- one of the state's before other checks
pub state_number : (reached : Bool) (r : Refusal) (rest lines : Check) → check_number (first_refused (unless (not reached) r rest) lines) ≡ cond reached (number_of r) (check_number (first_refused rest lines))
unfolding unless first_refused check_number
state_number true r rest lines = refl
state_number false r rest lines = refl

-- lines 1 to 5 before further ones
pub ranges_number : (s : Segment) (later : Check) (lines : List (ℕ × Bool)) → check_number later ≡ lowest_number lines → check_number (ranges_then s later) ≡ lowest_number (range_lines s ++ lines)
unfolding ranges_then range_lines lowest_number number_of
ranges_number s later lines e = simp (unless_number, e)

pub train_number_lem : (t : Train) → check_number (train_check t) ≡ lowest_number (train_lines t)
unfolding train_check train_lines lowest_number check_number number_of
train_number_lem t = simp unless_number

-- ---- a check with a value

pub check_of-answered : {A : Type 0} (c : Check) (x : A) → check_of (answered c x) ≡ c
unfolding check_of answered
check_of-answered (Ok _) x = refl
check_of-answered (Err r) x = refl
