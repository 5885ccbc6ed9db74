-- The answer of a call: the first text that is refused ends it, and four that are not give the entitlement of their studies.
-- Assumes nothing.
use mathlib.Core.Path.{◌≡◌, sym, ap, ◌∙◌}
use Prim.Native.Nat.{ℕ}
use Rattle.decibel.specs.declared.Level.{Level}
use Rattle.figures.specs.declared.Period.TheVariants.{Day, Night}
use Rattle.figures.specs.declared.Periods.{Periods}
use Rattle.figures.specs.declared.Refusal.{Refusal}
use Rattle.figures.specs.Refusal.{unless}
use Rattle.entitlement.specs.declared.Change.{Change}
use Rattle.entitlement.specs.declared.Entitlement.{Entitlement}
use Rattle.entitlement.specs.Entitlement.{levels_in, change_in, all_kept, entitlement_check, entitlement_of, EntitlementAnsweredBy}
use Rattle.entitlement.specs.Private.{LayoutFew}
use Rattle.entitlement.proofs.Answers.{given_answer}
use Rattle.text.specs.declared.TextFault.{TextFault}
use Rattle.railnoise_requests_c.specs.declared.RailnoiseEntitlementAnswer.{RailnoiseEntitlementAnswer}
use Rattle.railnoise_requests_c.specs.Entitlement.{exported_entitlement, exported_told, Source, source_check, read_at, layout_of, entitlement_in}
use Rattle.railnoise_requests_c.specs.Private.{source_of, TextGives, SourceRefused}
use Rattle.railnoise_requests_c.proofs.Texts.{lines_few, accepted-kept}
use Rattle.std.specs.Prelude.{List, Option, None, Some, Result, Ok, Err}

-- ---- one text

-- one that is not refused lets the request go on
read_on : (place : ℕ) (s : Source) (rest : RailnoiseEntitlementAnswer) → source_check s ≡ Ok tt → read_at place s rest ≡ rest
unfolding read_at
read_on place s rest ok = rw ok

-- one that is refused ends it
read_stop : (place : ℕ) (text : Option (List ℕ)) (rest : RailnoiseEntitlementAnswer) (f : TextFault) → SourceRefused place text f → exported_told (Err f) ≡ read_at place (source_of text) rest
unfolding read_at source_check exported_told
read_stop place None rest f x = absurd x
read_stop place (Some text) rest f x = rw (x.check, x.told, x.line)

-- ---- four texts

pub layout_few : (a o : Source) → LayoutFew (layout_of a o)
layout_few a o = record { altered = lines_few a; other = lines_few o }

-- a period's levels of the four
abbrev pub change_of : Level → Level → Level → Level → Change
change_of altered_before altered_after other_before other_after =
    record { before = record { altered = altered_before; other = other_before }; after = record { altered = altered_after; other = other_after } }

-- four texts of which none is refused keep the line of 23
module _ (a b c d : Source) where
  pub kept_all : source_check a ≡ Ok tt → source_check b ≡ Ok tt → source_check c ≡ Ok tt → source_check d ≡ Ok tt → entitlement_check (layout_of a c) (layout_of b d) ≡ Ok tt
  unfolding entitlement_check all_kept unless
  kept_all e f g h = rw (accepted-kept a e, accepted-kept b f, accepted-kept c g, accepted-kept d h)

-- the texts that are looked at, and what each gives
module _ (first second third fourth : Option (List ℕ)) where
  abbrev a : Source
  a = source_of first

  abbrev b : Source
  b = source_of second

  abbrev c : Source
  c = source_of third

  abbrev d : Source
  d = source_of fourth

  abbrev answer : RailnoiseEntitlementAnswer
  answer = exported_entitlement (entitlement_of (layout_of a c) (layout_of b d)) 0 0

  pub refused_first : (f : TextFault) → SourceRefused 1 first f → exported_told (Err f) ≡ entitlement_in a b c d
  unfolding entitlement_in
  refused_first f q = read_stop 1 first _ f q

  module _ {s : Periods Level} (x : TextGives a s) where
    after_first : read_at 2 b (read_at 3 c (read_at 4 d answer)) ≡ entitlement_in a b c d
    unfolding entitlement_in
    after_first = sym (read_on 1 a _ x.accepted)

    pub refused_second : (f : TextFault) → SourceRefused 2 second f → exported_told (Err f) ≡ entitlement_in a b c d
    refused_second f q = read_stop 2 second _ f q ∙ after_first

    module _ {t : Periods Level} (y : TextGives b t) where
      after_second : read_at 3 c (read_at 4 d answer) ≡ entitlement_in a b c d
      after_second = sym (read_on 2 b _ y.accepted) ∙ after_first

      pub refused_third : (f : TextFault) → SourceRefused 3 third f → exported_told (Err f) ≡ entitlement_in a b c d
      refused_third f q = read_stop 3 third _ f q ∙ after_second

      module _ {u : Periods Level} (z : TextGives c u) where
        after_third : read_at 4 d answer ≡ entitlement_in a b c d
        after_third = sym (read_on 3 c _ z.accepted) ∙ after_second

        pub refused_fourth : (f : TextFault) → SourceRefused 4 fourth f → exported_told (Err f) ≡ entitlement_in a b c d
        refused_fourth f q = read_stop 4 fourth _ f q ∙ after_third

        module _ {v : Periods Level} (w : TextGives d v) where
          levels_are : {e : Entitlement} → EntitlementAnsweredBy (change_of s.day t.day u.day v.day) (change_of s.night t.night u.night v.night) e
              → EntitlementAnsweredBy (change_in Day (layout_of a c) (layout_of b d)) (change_in Night (layout_of a c) (layout_of b d)) e
          unfolding change_in levels_in
          levels_are q = rw (x.day, y.day, z.day, w.day, x.night, y.night, z.night, w.night) at q

          pub all_given : {e : Entitlement} → EntitlementAnsweredBy (change_of s.day t.day u.day v.day) (change_of s.night t.night u.night v.night) e → exported_told (Ok e) ≡ entitlement_in a b c d
          unfolding exported_told
          all_given q =
              let is = given_answer (layout_of a c) (layout_of b d) (layout_few a c) (layout_few b d) (kept_all a b c d x.accepted y.accepted z.accepted w.accepted) (levels_are q) in
              ap (λ (k : Result Entitlement Refusal). exported_entitlement k 0 0) is ∙ sym (read_on 4 d answer w.accepted) ∙ after_third
