-- `lines::contents::contents_into` meets its contract. The loop's invariant: the numbers read so far, and those left, are all of the line's.
use Rattle.std.proofs.Common.{◌≡◌, None, sym, refl, ◌∙◌, rules, arith, w32, to_z-of_z}
use Rattle.std.proofs.lemmas.Result.{err_from_is_err_and}
use Rattle.figures.specs.declared.Refusal.TheVariants.{Form}
use Rattle.lines.proofs.AsCount.{count_mapped, none_mapped}
use Rattle.lines.proofs.Entries.{first_wrong, first_below, reached_first, reached_next, ended_torn, ended_other, ended_none, ended_good}
use Rattle.lines.proofs.Lent.{reached_few, contents_refused, contents_counted}
use Rattle.lines.proofs.contents.contents_into.Goals as goal
use Rattle.lines.proofs.contents.contents_into.Goals.{then-not-is_empty-via-then-not-is_empty, then-not-is_empty-via-else-not-is_empty+then-others-announced}

pub returns-in_err-first : goal.returns-in_err-first
returns-in_err-first c =
    let p = err_from_is_err_and c.from_residual.result c.from_residual.ensures.1 in
    let none : c.next_number.result ≡ None = c.in_err-first.ensures.ok_part in
    let form : c.in_err-first.field-0.0 ≡ Form = cc (rw none at c.in_err-first.ensures.value) in
    rw (p.1, p.2, form) (contents_refused refl (first_wrong _ _ c.new-numbers.ensures (sym none ∙ c.next_number.ensures.number)))

pub returns-in_err-announced : goal.returns-in_err-announced
returns-in_err-announced c =
    let p = err_from_is_err_and c.from_residual-in_err-announced.result c.from_residual-in_err-announced.ensures.1 in
    let t = none_mapped (search rules) c.try_from.result c.try_from.ensures (search rules) c.in_err-announced.was in
    rw (p.1, p.2, t.0)
    (contents_refused refl (first_below _ _ c.new-numbers.ensures (sym c.in_ok-first.ensures.ok_part ∙ c.next_number.ensures.number) c.next_number.ensures.left t.1))

pub loop-value-init : goal.loop-value-init
loop-value-init c = (
  refl,
  reached_first _ _ c.new-numbers.ensures (sym c.in_ok-first.ensures.ok_part ∙ c.next_number.ensures.number) c.next_number.ensures.left
      (count_mapped (search rules) c.try_from.result c.try_from.ensures (search rules) c.in_ok-announced.was) refl,
)

pub loop-value-preserved : goal.loop-value-preserved
loop-value-preserved c =
    let h = c.loop-value.invariant in
    let k = c.with_lent-sum.ensures in (
      k.size ∙ h.0,
      reached_next h.1 c.in-Some.ensures.left c.in-Some.ensures.number (rw (to_z-of_z {w = w32} {z = c.in-Some.value} (search rules), h.0) at k.next),
    )

pub returns-then-not-is_empty : goal.returns-then-not-is_empty
returns-then-not-is_empty c =
    let h = c.loop-value.invariant in
    let last = c.in_default.ensures in
    elim c.then-not-is_empty.branch [
      | then-not-is_empty-via-then-not-is_empty w ↦ contents_refused h.0 (ended_torn h.1 last.left last.number (λ z. let t = w.if-not-is_empty.ensures.1 z in cc))
      | then-not-is_empty-via-else-not-is_empty+then-others-announced w ↦ contents_refused h.0 (ended_other h.1 last.left last.number (w.if-not-is_empty.ensures.0 refl) (λ z. w.if-others-announced.true (sym z)))
    ]

pub returns-then-unwrap_or-eq0 : goal.returns-then-unwrap_or-eq0
returns-then-unwrap_or-eq0 c =
    let h = c.loop-value.invariant in
    let last = c.in_default.ensures in
    contents_refused h.0 (ended_none h.1 last.left last.number (c.if-not-is_empty.ensures.0 refl) (omega arith) (omega arith))

pub returns : goal.returns
returns c =
    let h = c.loop-value.invariant in
    let last = c.in_default.ensures in
    contents_counted h.0 (reached_few h.1 (λ z. omega arith))
    (ended_good h.1 last.left last.number (c.if-not-is_empty.ensures.0 refl) (omega arith) (λ z. omega arith))
