-- A segment's parts and their sum: as the code makes them, the mark, how far the sum lies from its fence and from zero.
-- Assumes nothing.
use mathlib.Core.Path.{◌≡◌, refl, sym, ◌∙◌, ap, subst}
use mathlib.Core.Bool.{Bool, true, false, cond}
use Prim.Native.Nat.{ℕ, ◌+◌, ◌≤◌}
use native.Mathlib.Nat.{lt_of_lt_of_le}
use native.Mathlib.Omega.{arith}
use lib.Dec.{eqb, lit<, lit≤}
use lib.IntN.{ℤ, pos, negsuc, ◌+ℤ◌}
use mir.Syntax.{w16, w32}
use mir.Val.{SFits, to_z, of_z}
use mir.Facts.{to_z-of_z}
use Rattle.decibel.specs.Round.{nearest}
use Rattle.decibel.proofs.Round.{Near, near_nearest, near_mark, near_exact, near_add}
use Rattle.figures.specs.declared.Segment.{Segment}
use Rattle.figures.specs.declared.Refusal.{Refusal}
use Rattle.figures.specs.Refusal.{check_number, Check, answered, check_of}
use Rattle.figures.specs.Rules.{within, lowest_number}
use Rattle.figures.specs.Bounds.{Below}
use Rattle.figures.specs.Private.{Exactly}
use Rattle.figures.proofs.Ranged.{Signed}
use Rattle.figures.proofs.Numbers.{check_of-answered}
use Rattle.figures.proofs.Signs.{read, below_more, below_back, natural_below, from_below, signed_below, returned, exactly_read, Sum, summand, added, summed}
use Rattle.figures.proofs.Same.{one_number}
use Rattle.figures.proofs.Lies.{lies_add, lies_within, lies_from, lies_micro, near_lies}
use Rattle.propagation.specs.declared.SegmentBreakdown.{SegmentBreakdown}
use Rattle.propagation.specs.declared.Propagation.{Propagation}
use Rattle.propagation.specs.declared.ground.Path.{Path}
use Rattle.propagation.specs.Distance.{distance_fence}
use Rattle.propagation.specs.Air.{air_fence}
use Rattle.propagation.specs.Angle.{angle_fence}
use Rattle.propagation.specs.Opposite.{opposite_fence}
use Rattle.propagation.specs.Check.{segment_check, segment_lines}
use Rattle.propagation.specs.Ground.{path_fence, ground_mark, SegmentMark, SegmentMarkBy}
use Rattle.propagation.specs.Propagation.{facade_tenths, segment_parts_by, no_segment_parts, segment_breakdown_by, segment_breakdown_of, added_up, propagation_of, judgement_of, segment_fence}
use Rattle.propagation.specs.Results.{PartsBelow, SegmentParted}
use Rattle.propagation.specs.Private.{PathTenths, FourAdded, sum_of}
use Rattle.propagation.proofs.Ranges.{Ranges}
use Rattle.propagation.proofs.Chain.{ranges, segment_number_lem}
use Rattle.propagation.proofs.DistanceStep.{distance_lies}
use Rattle.propagation.proofs.AirStep.{air_lies}
use Rattle.propagation.proofs.AngleRange.{angle_lies}
use Rattle.propagation.proofs.OppositeStep.{opposite_lies}
use Rattle.propagation.proofs.GroundMark.{ground_mark_allowed}
use Rattle.propagation.proofs.GroundStep.{path_lies}
use Rattle.std.specs.Prelude.{Result, Ok, Err, is_ok}
use Rattle.std.specs.Result.{ResultUnwrapsOrElse}

-- ---- the facade

pub facade_is : (s : Segment) {b : Bool} → read s.facade ≡ s.facade → eqb (of_z w32 s.facade) 1 ≡ b → cond b (pos 25) (pos 0) ≡ facade_tenths s
unfolding facade_tenths
facade_is s f i = ap (λ (y : Bool). cond y (pos 25) (pos 0)) (sym i ∙ one_number 1 s.facade (lit< tt) f)

facade_lies : (s : Segment) → Signed 0 25 (facade_tenths s)
unfolding facade_tenths
facade_lies s = go (within (pos 1) (pos 1) s.facade)
  where
    go : (b : Bool) → Signed 0 25 (cond b (pos 25) (pos 0))
    go true = record { most = lit≤ tt; least = lit≤ tt }
    go false = record { most = lit≤ tt; least = lit≤ tt }

-- ---- the parts

abbrev made : (distance air angle opposite path : ℤ) → Bool → (facade chart track ballast : ℤ) → SegmentBreakdown
made d a v o p m f c t b = record { distance = d; air = a; angle = v; opposite = o; path = p; close = m; facade = f; chart = c; track = t; ballast = b }

abbrev pub no_parts : SegmentBreakdown
no_parts = made (pos 0) (pos 0) (pos 0) (pos 0) (pos 0) false (pos 0) (pos 0) (pos 0) (pos 0)

-- a figure as it is read is small
figure_read : {v r : ℤ} → r ≡ v → Below 2000 v → Exactly v (read r)
figure_read e b = returned (lit≤ tt) e (subst (Below 2000) (sym e) b)

pub parts_are : (s : Segment) {p : Path} {d a v o f : ℤ} → Ranges s → PathTenths s p → Exactly (nearest (distance_fence s)) d → Exactly (nearest (air_fence s)) a → Exactly (nearest (angle_fence s)) v → Exactly (nearest (opposite_fence s)) o → f ≡ facade_tenths s → SegmentParted (segment_parts_by s (ground_mark s)) (made (read d) (read a) (read v) (read o) (read p.tenths) p.close (read f) (read s.chart) (read s.track) (read s.ballast))
unfolding segment_parts_by
parts_are s {p} g q d a v o f =
    let x = exactly_read d in
    let y = exactly_read a in
    let z = exactly_read v in
    let w = exactly_read o in
    let u = returned (lit≤ tt) q.is q.small in
    let i = figure_read f (signed_below (lit< tt) (lit< tt) (facade_lies s)) in
    let c = figure_read refl (from_below (lit< tt) g.ranged.chart) in
    let t = figure_read refl (from_below (lit< tt) g.readings.track) in
    let b = figure_read refl (signed_below (lit< tt) (lit< tt) g.readings.ballast) in
    record {
      is = rw (x.is, y.is, z.is, w.is, u.is, q.mark, i.is, c.is, t.is, b.is) refl;
      small = record { distance = x.small; air = y.small; angle = z.small; opposite = w.small; path = u.small; facade = i.small; chart = c.small; track = t.small; ballast = b.small };
    }

module _ (s : Segment) where
  pub accepted_breakdown : (mark : Bool) → segment_check s ≡ Ok tt → segment_parts_by s mark ≡ segment_breakdown_by s mark
  unfolding segment_breakdown_by
  accepted_breakdown mark e = sym (rw e refl)

  pub refused_breakdown : (mark : Bool) {k : Refusal} → segment_check s ≡ Err k → no_segment_parts ≡ segment_breakdown_by s mark
  unfolding segment_breakdown_by
  refused_breakdown mark e = sym (rw e refl)

  -- 01 allows the program's own mark of every segment
  pub own_mark_allowed : SegmentMark s (segment_breakdown_of s).close
  unfolding SegmentMark SegmentMarkBy segment_breakdown_of segment_breakdown_by segment_parts_by no_segment_parts
  own_mark_allowed = go (segment_check s) refl
    where
      go : (check : Check) → segment_check s ≡ check → SegmentMarkBy (is_ok check) s (cond (is_ok check) (segment_parts_by s (ground_mark s)) no_segment_parts).close
      go (Ok _) a = ground_mark_allowed s (ranges s a).ranged
      go (Err r) a = refl

  pub mark_allowed : {b : SegmentBreakdown} → SegmentParted (segment_breakdown_of s) b → SegmentMark s b.close
  mark_allowed {b} p = rw p.is own_mark_allowed

  pub accepted_parts : {b : SegmentBreakdown} → segment_check s ≡ Ok tt → SegmentParted (segment_parts_by s (ground_mark s)) b → SegmentParted (segment_breakdown_of s) b
  unfolding segment_breakdown_of
  accepted_parts {b} e p = subst (λ (v : SegmentBreakdown). SegmentParted v b) (accepted_breakdown (ground_mark s) e) p

  pub refused_parts : {k : Refusal} → segment_check s ≡ Err k → SegmentParted (segment_breakdown_of s) no_parts
  unfolding segment_breakdown_of no_segment_parts
  refused_parts e =
      let zero : Below 2000 (pos 0) = natural_below (lit< tt) in
      record {
        is = refused_breakdown (ground_mark s) e;
        small = record { distance = zero; air = zero; angle = zero; opposite = zero; path = zero; facade = zero; chart = zero; track = zero; ballast = zero };
      }

-- ---- in 16 bits

abbrev short : ℤ → ℤ
short z = to_z w16 (of_z w16 z)

pub short_fits : (z : ℤ) → Below 20000 z → SFits w16 z
short_fits (pos n) b = record { sfits = lt_of_lt_of_le b.most (lit≤ tt) }
short_fits (negsuc n) b = record { sfits = omega (arith, b.least) }

-- ---- their sum, as the code adds it

-- four numbers, the last two first
module _ {m : ℕ} {a b c d : ℤ} (ta : Below 2000 a) (tb : Below 2000 b) (tc : Below 2000 c) (td : Below m d) (h : m + 6000 ≤ 100000) where
  abbrev first : ℤ
  first = read c +ℤ read d

  first_sum : Sum (2000 + m) c d first
  first_sum = added tc td (omega arith)

  pub second_fits : SFits w32 (read b +ℤ read first)
  second_fits = summand {x = b} {y = first} tb first_sum.small (omega arith)

  abbrev second : ℤ
  second = read b +ℤ read first

  second_sum : Sum (2000 + (2000 + m)) b first second
  second_sum = added {x = b} {y = first} tb first_sum.small (omega arith)

  pub third_fits : SFits w32 (read a +ℤ read second)
  third_fits = summand {x = a} {y = second} ta second_sum.small (omega arith)

  third_sum : Sum (2000 + (2000 + (2000 + m))) a second (read a +ℤ read second)
  third_sum = added {x = a} {y = second} ta second_sum.small (omega arith)

  pub four_added : FourAdded (m + 6000) a b c d (read a +ℤ read second)
  four_added =
      record {
        is = third_sum.is ∙ ap (λ (z : ℤ). a +ℤ z) (second_sum.is ∙ ap (λ (z : ℤ). b +ℤ z) first_sum.is);
        small = below_more (omega arith) third_sum.small;
      }

  pub four_read : FourAdded (m + 6000) a b c d (read (read a +ℤ read second))
  four_read =
      let e = below_back (below_more (omega arith) four_added.small) in
      record { is = e ∙ four_added.is; small = subst (Below (m + 6000)) (sym e) four_added.small }

-- all of them, the readings first
module _ {b : SegmentBreakdown} (q : PartsBelow b) {e : ℤ} (r : FourAdded 8000 b.facade b.chart b.track b.ballast e) where
  pub opposite_fits : SFits w32 (read b.opposite +ℤ read (read b.path +ℤ read e))
  opposite_fits = second_fits q.angle q.opposite q.path r.small (lit≤ tt)

  abbrev across : ℤ
  across = read b.angle +ℤ read (read b.opposite +ℤ read (read b.path +ℤ read e))

  pub angle_fits : SFits w32 across
  angle_fits = third_fits q.angle q.opposite q.path r.small (lit≤ tt)

  across_sum : FourAdded 14000 b.angle b.opposite b.path e across
  across_sum = four_added q.angle q.opposite q.path r.small (lit≤ tt)

  pub air_fits : SFits w32 (read b.air +ℤ read across)
  air_fits = summand {x = b.air} {y = across} q.air across_sum.small (lit≤ tt)

  abbrev beyond : ℤ
  beyond = read b.air +ℤ read across

  air_sum : Sum 16000 b.air across beyond
  air_sum = added {x = b.air} {y = across} q.air across_sum.small (lit≤ tt)

  pub distance_fits : SFits w32 (read b.distance +ℤ read beyond)
  distance_fits = summand {x = b.distance} {y = beyond} q.distance air_sum.small (lit≤ tt)

  distance_sum : Sum 18000 b.distance beyond (read (read b.distance +ℤ read beyond))
  distance_sum = summed {x = b.distance} {y = beyond} q.distance air_sum.small (lit≤ tt)

  parts_add-up : read (read b.distance +ℤ read beyond) ≡ added_up b
  unfolding added_up
  parts_add-up =
      distance_sum.is
      ∙ ap (λ (z : ℤ). b.distance +ℤ z)
      (air_sum.is ∙ ap (λ (z : ℤ). b.air +ℤ z) (across_sum.is ∙ ap (λ (z : ℤ). b.angle +ℤ (b.opposite +ℤ (b.path +ℤ z))) r.is))

  -- it fits in 16 bits
  pub sum_fits : SFits w16 (read (read b.distance +ℤ read beyond))
  sum_fits = short_fits (read (read b.distance +ℤ read beyond)) (below_more (lit≤ tt) distance_sum.small)

  pub sum_is : record { tenths = short (read (read b.distance +ℤ read beyond)); close = b.close } ≡ sum_of b
  sum_is = ap (λ (t : ℤ). record { tenths = t; close = b.close }) (to_z-of_z sum_fits ∙ parts_add-up)

-- ---- what a segment adds, or nothing

-- what a segment that is refused adds: nothing
abbrev pub no_propagation : Propagation
no_propagation = record { tenths = pos 0; close = false }

module _ (s : Segment) where
  pub judged_kept : {b : SegmentBreakdown} {p : Propagation} → segment_check s ≡ Ok tt → SegmentParted (segment_parts_by s (ground_mark s)) b → p ≡ sum_of b → p ≡ propagation_of s
  unfolding propagation_of
  judged_kept e q i = i ∙ ap sum_of (accepted_parts s e q).is

  pub none_added : {k : Refusal} → segment_check s ≡ Err k → no_propagation ≡ propagation_of s
  unfolding propagation_of added_up
  none_added e = ap sum_of (refused_parts s e).is

  -- where a refusal stands for what adds nothing
  pub propagated : {D : Propagation → Type 0} {r : Result Propagation Refusal} {p : Propagation} → ((x : Propagation) → D x → x ≡ no_propagation) → r ≡ judgement_of s → ResultUnwrapsOrElse r D p → p ≡ propagation_of s
  unfolding judgement_of answered
  propagated {D} {r} {p} none i u = go (segment_check s) refl (subst (λ (x : Result Propagation Refusal). ResultUnwrapsOrElse x D p) i u)
    where
      go : (c : Check) → segment_check s ≡ c → ResultUnwrapsOrElse (answered c (propagation_of s)) D p → p ≡ propagation_of s
      go (Ok _) e u = u
      go (Err k) e u = none p u ∙ none_added e

  pub judged_allowed : {p : Propagation} → p ≡ propagation_of s → SegmentMark s p.close
  unfolding propagation_of
  judged_allowed i = rw i (own_mark_allowed s)

  pub judged_number : {r : Result Propagation Refusal} → r ≡ judgement_of s → check_number (check_of r) ≡ lowest_number (segment_lines s)
  unfolding judgement_of
  judged_number i = ap (λ (x : Result Propagation Refusal). check_number (check_of x)) i ∙ ap check_number (check_of-answered (segment_check s) (propagation_of s)) ∙ segment_number_lem s

-- ---- near its fence

-- the sum by a mark
pub segment_tenths : Segment → Bool → ℤ
segment_tenths s mark = added_up (segment_parts_by s mark)

readings : Segment → ℤ
readings s = facade_tenths s +ℤ (s.chart +ℤ (s.track +ℤ s.ballast))

-- five steps are rounded, one of them by its mark
pub near_segment : (s : Segment) (mark : Bool) → Near 249995 252000 (segment_tenths s mark) (segment_fence s)
unfolding segment_tenths segment_parts_by added_up segment_fence readings
near_segment s mark =
    near_add (near_nearest (distance_fence s))
    (near_add (near_nearest (air_fence s))
    (near_add (near_nearest (angle_fence s)) (near_add (near_nearest (opposite_fence s)) (near_add (near_mark mark (path_fence s)) (near_exact (readings s))))))

readings_lies : (s : Segment) → Ranges s → Signed 30 275 (readings s)
unfolding readings
readings_lies s g = lies_add (facade_lies s) (lies_add (lies_from g.ranged.chart) (lies_add (lies_from g.readings.track) g.readings.ballast))

pub segment_lies : (s : Segment) → Ranges s → Signed 88690000 42220000 (segment_fence s)
unfolding segment_fence readings
segment_lies s g =
    lies_within (lit≤ tt) (lit≤ tt)
    (lies_add (distance_lies g.ranged)
    (lies_add (air_lies g.ranged)
    (lies_add (angle_lies g.ranged) (lies_add (opposite_lies g.readings) (lies_add (path_lies s g) (lies_micro (readings_lies s g)))))))

-- ---- what is propagated: that sum, or nothing

pub accepted_tenths : (s : Segment) (mark : Bool) → segment_check s ≡ Ok tt → added_up (segment_breakdown_by s mark) ≡ segment_tenths s mark
unfolding segment_tenths
accepted_tenths s mark e = ap added_up (sym (accepted_breakdown s mark e))

pub refused_tenths : (s : Segment) (mark : Bool) {k : Refusal} → segment_check s ≡ Err k → added_up (segment_breakdown_by s mark) ≡ pos 0
unfolding added_up no_segment_parts
refused_tenths s mark e = ap added_up (sym (refused_breakdown s mark e))

-- for every segment it is small
pub propagation_small : (s : Segment) → Below 20000 (propagation_of s).tenths
unfolding propagation_of segment_breakdown_of
propagation_small s = go (segment_check s) refl
  where
    go : (c : Check) → segment_check s ≡ c → Below 20000 (added_up (segment_breakdown_by s (ground_mark s)))
    go (Ok _) e =
        let l = near_lies 1000 1000 (segment_tenths s (ground_mark s)) (segment_fence s) (lit≤ tt) (lit≤ tt) (near_segment s (ground_mark s)) (segment_lies s (ranges s e)) in
        rw (accepted_tenths s (ground_mark s) e) (signed_below (lit< tt) (lit< tt) l)
    go (Err k) e = rw (refused_tenths s (ground_mark s) e) (natural_below (lit< tt))
