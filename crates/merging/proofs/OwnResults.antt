-- A merged study's result: from the levels of both studies' entries and from both counts of marked segments; of a study without entries nothing is heard.
-- Assumes nothing.
use mathlib.Core.Path.{◌≡◌, refl, sym, ap, ap₂, ◌∙◌}
use mathlib.Core.Bool.{Bool, true, false, cond, ◌&&◌}
use mathlib.Core.List.{List, [], ◌∷◌, ◌++◌, append-nil}
use Prim.Native.Nat.{ℕ, suc, ◌+◌}
use native.Mathlib.Omega.{arith}
use Rattle.decibel.specs.declared.Level.{Level}
use Rattle.energy.specs.Total.{total_by}
use Rattle.energy.specs.Mark.{total_of}
use Rattle.figures.specs.declared.Segment.{Segment}
use Rattle.figures.specs.declared.Period.{Period}
use Rattle.study.specs.Plan.{Plan}
use Rattle.study.specs.Add.{Limits}
use Rattle.study.proofs.Plans.{PlanHeld}
use Rattle.request.specs.Levels.{Marks, mark_at, level_at, levels_of, figures, heard_at, close_from, close_segments, result_from, result_by, own_marks}
use Rattle.request.proofs.Results.{own_total_lem}
use Rattle.merging.specs.Joined.{joined}
use Rattle.merging.proofs.OwnLevels.{own_levels}
use Rattle.merging.proofs.OwnCounts.{own_close}

module _ (p : Period) where
  -- by the program's own marks
  result_of_lem : (plan : Plan) → result_by p plan (own_marks plan) ≡ result_from p (total_of (figures (levels_of p plan (own_marks plan)))) (close_segments p plan (own_marks plan))
  unfolding result_by levels_of level_at own_marks total_of
  result_of_lem plan = ap (λ (mark : Bool). result_from p (total_by mark (figures (levels_of p plan (own_marks plan)))) (close_segments p plan (own_marks plan))) (own_total_lem p plan)

  module _ (a b : Plan) {l : Limits} (held : PlanHeld l a) where
    pub own_result : result_by p (joined a b) (own_marks (joined a b))
        ≡ result_from p (total_of (figures (levels_of p a (own_marks a) ++ levels_of p b (own_marks b)))) (close_segments p a (own_marks a) + close_segments p b (own_marks b))
    own_result =
        result_of_lem (joined a b)
        ∙ ap₂ (λ (levels : List Level) (count : ℕ). result_from p (total_of (figures levels)) count) (own_levels a b p held) (own_close p a b held)

  -- ---- a study without entries

  no_close : (plan : Plan) (m : Marks) → plan.entries ≡ [] → (k : ℕ) (ss : List Segment) → close_from p plan m k ss ≡ 0
  unfolding close_from heard_at
  no_close plan m e k [] = refl
  no_close plan m e k (s ∷ ss) = rw (no_close plan m e (suc k) ss, e) (go (mark_at m k))
    where
      go : (mark : Bool) → cond (mark && false) 1 0 + 0 ≡ 0
      go true = refl
      go false = refl

  no_levels : (plan : Plan) (m : Marks) → plan.entries ≡ [] → levels_of p plan m ≡ []
  unfolding levels_of
  no_levels plan m e = rw e refl

  module _ (a b : Plan) {l : Limits} (held : PlanHeld l a) where
    pub second_unheard : b.entries ≡ [] → result_by p (joined a b) (own_marks (joined a b)) ≡ result_by p a (own_marks a)
    unfolding close_segments
    second_unheard e =
        own_result a b held
        ∙ ap₂ (λ (levels : List Level) (count : ℕ). result_from p (total_of (figures levels)) count)
        (rw (no_levels b (own_marks b) e) (append-nil (levels_of p a (own_marks a))))
        (rw (no_close b (own_marks b) e 0 b.segments) (omega arith))
        ∙ sym (result_of_lem a)

    pub first_unheard : a.entries ≡ [] → result_by p (joined a b) (own_marks (joined a b)) ≡ result_by p b (own_marks b)
    unfolding close_segments
    first_unheard e =
        own_result a b held
        ∙ ap₂ (λ (levels : List Level) (count : ℕ). result_from p (total_of (figures levels)) count)
        (rw (no_levels a (own_marks a) e) refl)
        (rw (no_close a (own_marks a) e 0 a.segments) (omega arith))
        ∙ sym (result_of_lem b)
