-- Every entry's level, with any mark: near its fence, from -200 to 180 dB where it is not silent.
-- Assumes nothing.
use mathlib.Core.Path.{◌≡◌, refl, sym, ◌∙◌, ap, ap₂, subst}
use mathlib.Core.Bool.{Bool, true, false}
use native.Mathlib.Omega.{arith}
use lib.Dec.{lit≤}
use lib.IntN.{ℤ, pos, negsuc, ◌+ℤ◌}
use lib.Signed.{◌≤ℤ◌}
use Rattle.decibel.specs.declared.Level.{Level}
use Rattle.decibel.specs.declared.Level.TheVariants.{Silent, Figure}
use Rattle.decibel.proofs.Ints.{ints}
use Rattle.decibel.proofs.Round.{Near, near_add}
use Rattle.energy.proofs.Alone.{no_figure}
use Rattle.figures.specs.declared.Segment.{Segment}
use Rattle.figures.specs.declared.Train.{Train}
use Rattle.figures.specs.declared.Period.{Period}
use Rattle.figures.specs.Rules.{train_check}
use Rattle.figures.proofs.Ranged.{Signed}
use Rattle.figures.proofs.Kept.{train_ranged}
use Rattle.figures.proofs.Lies.{lies_add, near_lies}
use Rattle.propagation.specs.Check.{segment_check}
use Rattle.propagation.specs.Propagation.{segment_breakdown_by, added_up}
use Rattle.propagation.proofs.Chain.{ranges}
use Rattle.propagation.proofs.SegmentSum.{segment_tenths, near_segment, segment_lies, accepted_tenths, refused_tenths}
use Rattle.emission.specs.Trains.{sounds}
use Rattle.emission.specs.Emission.{raised, emission_of}
use Rattle.emission.proofs.TrainsStep.{runs}
use Rattle.emission.proofs.Emission.{train_tenths, near_train, train_lies, emits_figure, emits_none, refused_silent}
use Rattle.request.specs.Entry.{level_by, entry_fence}
use Rattle.figures.specs.Refusal.{Check}
use Rattle.std.specs.Prelude.{Ok, Err}

-- the sum of an accepted entry that has trains
pub entry_tenths : Period → Segment → Bool → Train → ℤ
entry_tenths p s mark t = segment_tenths s mark +ℤ train_tenths p t

-- eight steps are rounded, each once
pub near_entry : (p : Period) (s : Segment) (mark : Bool) (t : Train) → Near 399992 402000 (entry_tenths p s mark t) (entry_fence p s t)
unfolding entry_tenths entry_fence
near_entry p s mark t = near_add (near_segment s mark) (near_train p t)

module _ (p : Period) (s : Segment) (t : Train) (es : segment_check s ≡ Ok tt) (et : train_check t ≡ Ok tt) where
  pub level_figure : (mark : Bool) → sounds p t ≡ true → level_by p s mark t ≡ Figure (entry_tenths p s mark t)
  unfolding level_by entry_tenths raised
  level_figure mark e = ap₂ raised (accepted_tenths s mark es) (emits_figure p t et e)

  pub level_silent : (mark : Bool) → sounds p t ≡ false → level_by p s mark t ≡ Silent
  unfolding level_by raised
  level_silent mark e = ap (raised (added_up (segment_breakdown_by s mark))) (emits_none p t et e)

  module _ (trains : sounds p t ≡ true) where
    entry_lies : Signed 136790000 171420000 (entry_fence p s t)
    unfolding entry_fence
    entry_lies = lies_add (segment_lies s (ranges s es)) (train_lies p t (train_ranged t et) (runs p t trains))

    -- from -200 dB
    pub entry_loud : negsuc 199999999 ≤ℤ entry_fence p s t
    entry_loud = omega (arith, ints, entry_lies.least)

    -- to 200 dB
    pub entry_most : entry_fence p s t ≤ℤ pos 200000000
    entry_most = omega (arith, ints, entry_lies.most)

    pub level_lies : (mark : Bool) → Signed 2000 1800 (entry_tenths p s mark t)
    level_lies mark = near_lies 2000 1800 (entry_tenths p s mark t) (entry_fence p s t) (lit≤ tt) (lit≤ tt) (near_entry p s mark t) entry_lies

-- ---- for every figure

train_tenths_lie : (p : Period) (t : Train) → train_check t ≡ Ok tt → sounds p t ≡ true → Signed 2000 1800 (train_tenths p t)
train_tenths_lie p t et trains = near_lies 2000 1800 (train_tenths p t) _ (lit≤ tt) (lit≤ tt) (near_train p t) (train_lies p t (train_ranged t et) (runs p t trains))

-- and so where its segment is refused and adds nothing
alone_lies : (p : Period) (t : Train) → train_check t ≡ Ok tt → sounds p t ≡ true → Signed 2000 1800 (pos 0 +ℤ train_tenths p t)
alone_lies p t et trains = let zero : Signed 0 0 (pos 0) = record { most = lit≤ tt; least = lit≤ tt } in lies_add zero (train_tenths_lie p t et trains)

same-figure : (P : ℤ → Type 0) (a r : ℤ) → ◌≡◌ {A = Level} (Figure a) (Figure r) → P a → P r
same-figure P a r e h = let q : a ≡ r = cc in subst P q h

pub levels_lie : (p : Period) (s : Segment) (mark : Bool) (t : Train) (r : ℤ) → level_by p s mark t ≡ Figure r → Signed 2000 1800 r
unfolding level_by raised
levels_lie p s mark t r = cases (train_check t) refl (sounds p t) refl (segment_check s) refl
  where
    d : ℤ
    d = added_up (segment_breakdown_by s mark)

    cases : (x : Check) → train_check t ≡ x → (b : Bool) → sounds p t ≡ b → (y : Check) → segment_check s ≡ y → raised d (emission_of p t) ≡ Figure r → Signed 2000 1800 r
    cases (Ok _) et true eb (Ok _) es e = same-figure (Signed 2000 1800) _ r (sym (level_figure p s t es et mark eb) ∙ e) (level_lies p s t es et eb mark)
    cases (Ok _) et true eb (Err k) es e =
        same-figure (Signed 2000 1800) _ r (sym (ap₂ raised (refused_tenths s mark es) (emits_figure p t et eb)) ∙ e) (alone_lies p t et eb)
    cases (Ok _) et false eb y es e = no_figure r (sym (ap (raised d) (emits_none p t et eb)) ∙ e)
    cases (Err k) et b eb y es e = no_figure r (sym (ap (raised d) (refused_silent p t et)) ∙ e)
