-- The entries of a sound plan: each level near its fence, in the order of the entries, and so the total near the bare level.
-- Assumes nothing.
use mathlib.Core.Path.{◌≡◌, refl}
use mathlib.Core.Bool.{Bool, true, false, cond, ◌||◌, false≢true}
use mathlib.Core.List.{List, [], ◌∷◌, map}
use Prim.Native.Nat.{ℕ, suc, ◌≤◌, ◌<◌, zero-le, suc-le-suc}
use native.Mathlib.Nat.{le_trans, le-suc, lt_irrefl, zero-lt-suc}
use lib.IntN.{ℤ}
use lib.ListN.{length}
use lib.Dec.{lit≤}
use Rattle.decibel.specs.Round.{by_mark}
use Rattle.decibel.specs.declared.Level.TheVariants.{Figure}
use Rattle.energy.specs.Energy.{added, BareLevel, bare_at}
use Rattle.energy.specs.Total.{energies, total_by}
use Rattle.energy.proofs.Accurate.{Entries, none, next, AccurateTotal, entries_bare}
use Rattle.energy.proofs.Bare.{bare_same}
use Rattle.figures.specs.declared.Segment.{Segment}
use Rattle.figures.specs.declared.Period.{Period}
use Rattle.figures.specs.declared.Period.TheVariants.{Day, Night}
use Rattle.propagation.specs.Check.{segment_check}
use Rattle.emission.specs.Trains.{sounds}
use Rattle.request.specs.Entry.{entry_fence}
use Rattle.request.proofs.EntryLevels.{near_entry, level_figure, level_silent, entry_loud}
use Rattle.study.specs.declared.Entry.{Entry}
use Rattle.study.specs.Plan.{Plan, segment_at}
use Rattle.study.specs.Add.{ours, Limits}
use Rattle.study.proofs.Plans as Plans
use Rattle.request.specs.Levels.{Marks, mark_at, total_mark_in, level_at, levels_of, figures, limit_of, met_by, result_from, result_by}
use Rattle.study.proofs.Plans.{Each, EntryHeld, PlanHeld, segment_kept}
use Rattle.request.specs.Accuracy.{fences_of, Bare, has_trains, Band, AccurateToBare}
use Rattle.std.specs.Prelude.{Ok}

-- the fences and the figures of the entries that have trains in a period
pub entries_near : (p : Period) {l : Limits} (plan : Plan) (m : Marks) → PlanHeld l plan → {es : List Entry} → Each (EntryHeld plan.segments) es → Entries (fences_of p plan es) (figures (map (level_at p plan m) es))
unfolding fences_of figures level_at
entries_near p plan m held Plans.Each.none = none
entries_near p plan m held (Plans.Each.next {x = e} {xs = es} at rest) = go (sounds p e.train) refl (entries_near p plan m held rest)
  where
    s : Segment
    s = segment_at plan e.segment

    mark : Bool
    mark = mark_at m e.segment

    kept : segment_check s ≡ Ok tt
    kept = segment_kept plan held e.segment at.segment

    go : (b : Bool) → sounds p e.train ≡ b → Entries (fences_of p plan es) (figures (map (level_at p plan m) es)) → Entries (fences_of p plan (e ∷ es)) (figures (map (level_at p plan m) (e ∷ es)))
    go true q r = rw (q, level_figure p s e.train kept at.train mark q) (next (near_entry p s mark e.train) (entry_loud p s e.train kept at.train q) r)
    go false q r = rw (q, level_silent p s e.train kept at.train mark q) r

-- no more fences than entries, and one where some entry has trains
fences_few : (p : Period) (plan : Plan) (es : List Entry) → length (fences_of p plan es) ≤ length es
unfolding fences_of
fences_few p plan [] = zero-le
fences_few p plan (e ∷ es) = go (sounds p e.train) (fences_few p plan es)
  where
    go : (b : Bool) → length (fences_of p plan es) ≤ length es → length (cond b (entry_fence p (segment_at plan e.segment) e.train ∷ fences_of p plan es) (fences_of p plan es)) ≤ suc (length es)
    go true h = suc-le-suc h
    go false h = le_trans h (le-suc (length es))

fences_some : (p : Period) (plan : Plan) (es : List Entry) → has_trains p es ≡ true → 0 < length (fences_of p plan es)
unfolding fences_of has_trains
fences_some p plan [] h = absurd (false≢true h)
fences_some p plan (e ∷ es) h = go (sounds p e.train) h (fences_some p plan es)
  where
    go : (b : Bool) → (b || has_trains p es) ≡ true → (has_trains p es ≡ true → 0 < length (fences_of p plan es)) → 0 < length (cond b (entry_fence p (segment_at plan e.segment) e.train ∷ fences_of p plan es) (fences_of p plan es))
    go true q r = zero-lt-suc (length (fences_of p plan es))
    go false q r = r q

-- a total that is a figure
figure_of_lem : (mark : Bool) {fs rs : List ℤ} → Entries fs rs → 0 < length fs → (total_by mark rs).level ≡ Figure (by_mark mark (bare_at (energies rs)))
unfolding total_by
figure_of_lem mark none h = absurd (lt_irrefl 0 h)
figure_of_lem mark (next near loud es) h = refl

some_limit : (p : Period) → 1 ≤ limit_of p
unfolding limit_of
some_limit Day = lit≤ tt
some_limit Night = lit≤ tt

-- the total of up to 96 levels near their fences keeps to a band
abbrev pub TotalsKeep : Band → Type 0
TotalsKeep band =
    (limit : ℕ) (mark : Bool) (b : ℤ) → 1 ≤ limit → (fs rs : List ℤ) → Entries fs rs → 0 < length fs → length fs ≤ ours.entries → BareLevel (added fs) b →
    AccurateTotal band.above band.below band.always band.never limit b (by_mark mark (bare_at (energies rs)))

-- A period's result by any marks is accurate to the plan's bare level, in every band that totals keep to.
module _ (band : Band) (kept : TotalsKeep band) where
  pub result_accurate : (p : Period) {l : Limits} (plan : Plan) (m : Marks) → PlanHeld l plan → length plan.entries ≤ ours.entries → has_trains p plan.entries ≡ true → AccurateToBare band p plan (result_by p plan m)
  unfolding Bare result_by result_from levels_of met_by
  result_accurate p plan m held few trains =
      let es = entries_near p plan m held held.entries in
      let some = fences_some p plan plan.entries trains in
      let b = bare_at (added (fences_of p plan plan.entries)) in
      let is = entries_bare es some in
      let mark = total_mark_in p m in
      let level = figure_of_lem mark es some in
      let a = kept (limit_of p) mark b (some_limit p) _ _ es some (le_trans (fences_few p plan plan.entries) few) is in
      record {
        bare = b;
        is = is;
        only = λ c h. bare_same (added (fences_of p plan plan.entries)) c b h is;
        accurate = record {
          figure = by_mark mark (bare_at (energies (figures (map (level_at p plan m) plan.entries))));
          level = level;
          above = a.above;
          below = a.below;
          always = λ h. rw level (a.always h);
          never = λ h. rw level (a.never h);
        };
      }
