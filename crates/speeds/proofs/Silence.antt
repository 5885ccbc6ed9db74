-- Another speed of one entry: typed twice it counts once, and where the entry or the whole period has no trains it changes nothing.
-- Assumes nothing.
use mathlib.Core.Path.{◌≡◌, refl, sym, ap, ap₂, ◌∙◌}
use mathlib.Core.Bool.{Bool, true, false, ◌||◌, false≢true}
use mathlib.Core.List.{List, [], ◌∷◌, map}
use Prim.Native.Nat.{ℕ, zero, suc}
use lib.ListN.{get_or, set}
use Rattle.decibel.specs.declared.Level.{Level}
use Rattle.decibel.specs.declared.Level.TheVariants.{Silent}
use Rattle.energy.specs.Total.{total_by}
use Rattle.energy.specs.Mark.{total_of}
use Rattle.figures.specs.declared.Period.{Period}
use Rattle.emission.specs.Trains.{sounds}
use Rattle.emission.specs.Emission.{raised, emission_of}
use Rattle.study.specs.declared.Entry.{Entry}
use Rattle.study.specs.Plan.{Plan, no_entry}
use Rattle.request.specs.Entry.{level_by}
use Rattle.request.specs.Levels.{Marks, level_at, figures, ground_marks, cell_of}
use Rattle.request.specs.Accuracy.{has_trains}
use Rattle.request.proofs.Cells.{cells_of}
use Rattle.request.proofs.Results.{own_level}
use Rattle.speeds.specs.Speeds.{at_speed, entry_at_speed, with_speed, own_total}
use Rattle.speeds.proofs.Faster.{total_with, sounds_at_lem, silent_train, silent_at}
use Rattle.speeds.proofs.OfPlan.{entry_in, added_in, total_at_lem}

-- the list with the entry at a place at a speed
abbrev changed : List Entry → ℕ → ℕ → List Entry
changed es i v = set es i (entry_at_speed v (get_or es i no_entry))

changed_twice : (es : List Entry) (i u v : ℕ) → changed (changed es i u) i v ≡ changed es i v
changed_twice [] i u v = refl
changed_twice (e ∷ es) zero u v = refl
changed_twice (e ∷ es) (suc i) u v = ap₂ ◌∷◌ refl (changed_twice es i u v)

pub same-speed : (plan : Plan) (i u v : ℕ) → with_speed (with_speed plan i u) i v ≡ with_speed plan i v
unfolding with_speed
same-speed plan i u v = ap (λ (es : List Entry). record { segments = plan.segments; entries = es }) (changed_twice plan.entries i u v)

-- ---- an entry without trains in the period

pub silent_total : (p : Period) (plan : Plan) (i : ℕ) → sounds p (entry_in p plan i).train ≡ false → (v w : ℕ) → own_total p (with_speed plan i v) ≡ own_total p (with_speed plan i w)
silent_total p plan i none v w =
    let t = (entry_in p plan i).train in
    let same : emission_of p (at_speed v t) ≡ emission_of p (at_speed w t) = silent_at p t none v ∙ sym (silent_at p t none w) in
    total_at_lem p plan i v ∙ ap (λ (l : Level). total_with (cells_of p plan) i (cell_of (raised (added_in p plan i) l))) same ∙ sym (total_at_lem p plan i w)

-- ---- a period without trains

no_trains : (a b : Bool) → (a || b) ≡ false → (a ≡ false) × (b ≡ false)
no_trains true b e = absurd (false≢true (sym e))
no_trains false b e = (refl, e)

-- nobody is heard
no_figures : (p : Period) (plan : Plan) (m : Marks) (es : List Entry) → has_trains p es ≡ false → figures (map (level_at p plan m) es) ≡ []
unfolding has_trains figures level_at level_by raised
no_figures p plan m [] none = refl
no_figures p plan m (e ∷ es) none = let both = no_trains (sounds p e.train) (has_trains p es) none in rw (silent_train p e.train both.0) (no_figures p plan m es both.1)

-- at any speed
trains_same : (p : Period) (es : List Entry) (i v : ℕ) → has_trains p (changed es i v) ≡ has_trains p es
unfolding has_trains
trains_same p [] i v = refl
trains_same p (e ∷ es) zero v = ap (λ (b : Bool). b || has_trains p es) (sounds_at_lem e.train v p)
trains_same p (e ∷ es) (suc i) v = ap (λ (b : Bool). sounds p e.train || b) (trains_same p es i v)

pub has_same : (p : Period) (plan : Plan) (i v : ℕ) → has_trains p (with_speed plan i v).entries ≡ has_trains p plan.entries
unfolding with_speed
has_same p plan i v = trains_same p plan.entries i v

pub unheard_total : (p : Period) (plan : Plan) (i v : ℕ) → has_trains p plan.entries ≡ false → own_total p (with_speed plan i v) ≡ Silent
unfolding own_total total_of total_by
unheard_total p plan i v none =
    let at = with_speed plan i v in
    own_level p at ∙ rw (no_figures p at (ground_marks at) at.entries (has_same p plan i v ∙ none)) refl
