-- `propagation::segment_breakdown_of` meets its contract.
use mathlib.Core.Path.{◌≡◌, subst}
use Rattle.std.specs.Prelude.{Result, Ok, Err, MatchResult, IsOkAnd}
use Rattle.std.specs.Result.{ResultUnwrapsOrElse}
use Rattle.std.proofs.Common.{rules}
use Rattle.figures.specs.declared.Segment.{Segment}
use Rattle.figures.specs.declared.Refusal.{Refusal}
use Rattle.propagation.specs.declared.SegmentBreakdown.{SegmentBreakdown}
use Rattle.propagation.specs.declared.kept.Kept.{Kept}
use Rattle.propagation.specs.Check.{segment_check}
use Rattle.propagation.specs.Ground.{ground_mark}
use Rattle.propagation.specs.Propagation.{segment_parts_by, segment_breakdown_of}
use Rattle.propagation.specs.Results.{SegmentParted}
use Rattle.propagation.specs.Private.{Judges}
use Rattle.propagation.proofs.SegmentSum.{no_parts, accepted_parts, refused_parts, mark_allowed}
use Rattle.propagation.proofs.segment_breakdown_of.Goals as goal

-- the parts of a kept segment, and none in a refusal's place
parted : {D : SegmentBreakdown → Type 0} {P : Kept → SegmentBreakdown → Type 0} (s : Segment) (r : Result Kept Refusal) (m : Result SegmentBreakdown Refusal) {b : SegmentBreakdown}
    → Judges s r → MatchResult r (λ k. IsOkAnd m (P k)) (λ e. m ≡ Err e) → ResultUnwrapsOrElse m D b
    → ((x : SegmentBreakdown) → D x → no_parts ≡ x) → ((k : Kept) (x : SegmentBreakdown) → P k x → SegmentParted (segment_parts_by k.ranged.segment (ground_mark k.ranged.segment)) x)
    → SegmentParted (segment_breakdown_of s) b
unfolding Judges
parted s (Ok k) (Ok x) j p u none parts =
    let e = subst (λ (t : Segment). segment_check t ≡ Ok tt) j k.kept in
    rw u (accepted_parts s e (subst (λ (t : Segment). SegmentParted (segment_parts_by t (ground_mark t)) x) j (parts k x p)))
parted s (Ok k) (Err e) j p u none parts = absurd p
parted {D} s (Err e) m {b} j p u none parts =
    subst (SegmentParted (segment_breakdown_of s)) (none b (subst (λ (n : Result SegmentBreakdown Refusal). ResultUnwrapsOrElse n D b) p u)) (refused_parts s j)

pub returns : goal.returns
returns c =
    let p = parted c.args.s c.judge.result c.map.result c.judge.ensures c.map.ensures.cases c.unwrap_or_default.ensures (λ x d. search rules) (λ k x p. search rules) in record {
      is = p;
      allowed = mark_allowed c.args.s p;
    }
