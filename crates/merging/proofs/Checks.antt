-- Whether two studies are few enough for one: 21, then 22, and what the answer is by it.
-- Assumes nothing.
use mathlib.Core.Path.{◌≡◌, sym, ap, ◌∙◌}
use Prim.Native.Nat.{ℕ, ◌≤◌, ◌<◌}
use native.Mathlib.Nat.{lt_of_not-le}
use native.Mathlib.Decide.{dec_le}
use native.Mathlib.Omega.{arith}
use borrow.Author.Tests.{le-leb, lt-leb, leb-true}
use lib.Dec.{leb}
use Rattle.figures.specs.declared.Refusal.TheVariants.{SegmentLimit, EntryLimit}
use Rattle.figures.specs.Refusal.{number_of, check_number, unless, Check}
use Rattle.figures.specs.Rules.{lowest_number}
use Rattle.figures.proofs.Kept.{first_kept, rest_kept}
use Rattle.figures.proofs.Numbers.{unless_number}
use Rattle.study.specs.Add.{Limits}
use Rattle.merging.specs.Merge.{limits_check, limits_number}
use Rattle.std.specs.Prelude.{Ok, Err}

module _ (l : Limits) (segments entries : ℕ) where
  pub segments_over : l.segments < segments → limits_check l segments entries ≡ Err SegmentLimit
  unfolding limits_check unless
  segments_over h = simp (lt-leb segments l.segments h)

  pub entries_over : segments ≤ l.segments → l.entries < entries → limits_check l segments entries ≡ Err EntryLimit
  unfolding limits_check unless
  entries_over few h = simp (le-leb segments l.segments few, lt-leb entries l.entries h)

  pub both_within : segments ≤ l.segments → entries ≤ l.entries → limits_check l segments entries ≡ Ok tt
  unfolding limits_check unless
  both_within few h = simp (le-leb segments l.segments few, le-leb entries l.entries h)

-- ---- and from the answer back to the counts

module _ (l : Limits) (segments entries : ℕ) where
  pub record Within : Type 0 where
    pub segments_few : segments ≤ l.segments
    pub entries_few : entries ≤ l.entries

  pub within : limits_check l segments entries ≡ Ok tt → Within
  unfolding limits_check
  within e =
      let rest = rest_kept (leb segments l.segments) SegmentLimit _ e in
      record {
        segments_few = leb-true segments l.segments (first_kept (leb segments l.segments) SegmentLimit _ e);
        entries_few = leb-true entries l.entries (first_kept (leb entries l.entries) EntryLimit (Ok tt) rest);
      }

  pub twenty_one : check_number (limits_check l segments entries) ≡ 21 → l.segments < segments
  unfolding check_number number_of
  twenty_one e = go (dec_le segments l.segments) (dec_le entries l.entries)
    where
      go : Dec (segments ≤ l.segments) → Dec (entries ≤ l.entries) → l.segments < segments
      go (no f) d = lt_of_not-le f
      go (yes h) (no g) = let z = ap check_number (entries_over l segments entries h (lt_of_not-le g)) in absurd (omega arith)
      go (yes h) (yes k) = let z = ap check_number (both_within l segments entries h k) in absurd (omega arith)

  pub twenty_two : check_number (limits_check l segments entries) ≡ 22 → (segments ≤ l.segments) × (l.entries < entries)
  unfolding check_number number_of
  twenty_two e = go (dec_le segments l.segments) (dec_le entries l.entries)
    where
      go : Dec (segments ≤ l.segments) → Dec (entries ≤ l.entries) → (segments ≤ l.segments) × (l.entries < entries)
      go (no f) d = let z = ap check_number (segments_over l segments entries (lt_of_not-le f)) in absurd (omega arith)
      go (yes h) (no g) = (h, lt_of_not-le g)
      go (yes h) (yes k) = let z = ap check_number (both_within l segments entries h k) in absurd (omega arith)

-- ---- by its number

limits_number_lem : (l : Limits) (segments entries : ℕ) → check_number (limits_check l segments entries) ≡ limits_number l segments entries
unfolding limits_check limits_number lowest_number check_number number_of
limits_number_lem l segments entries = simp unless_number

limits_number_by : (l : Limits) (segments entries : ℕ) {r : Check} → r ≡ limits_check l segments entries → check_number r ≡ limits_number l segments entries
limits_number_by l segments entries e = ap check_number e ∙ limits_number_lem l segments entries

-- the same of each answer that the function gives: no file names its tests, so an edit of a test fails on the promise
module _ (l : Limits) (segments entries : ℕ) where
  pub segments_over_number : l.segments < segments → check_number (Err SegmentLimit) ≡ limits_number l segments entries
  segments_over_number h = limits_number_by l segments entries (sym (segments_over l segments entries h))

  pub entries_over_number : segments ≤ l.segments → l.entries < entries → check_number (Err EntryLimit) ≡ limits_number l segments entries
  entries_over_number few h = limits_number_by l segments entries (sym (entries_over l segments entries few h))

  pub both_within_number : segments ≤ l.segments → entries ≤ l.entries → check_number (Ok tt) ≡ limits_number l segments entries
  both_within_number few h = limits_number_by l segments entries (sym (both_within l segments entries few h))
