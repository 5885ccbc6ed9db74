-- `lines::contents::with_count` meets its contract.
use Rattle.std.proofs.Common.{◌≡◌, pos, sym, length, arith, eqb-true}
use borrow.Author.Tests.{eqb-false}
use Rattle.lines.proofs.AsCount.{count_tried, none_tried}
use Rattle.lines.proofs.Entries.{exceeded_below, exceeded_full, exceeded_sum, held_more}
use Rattle.lines.proofs.contents.with_count.Goals as goal
use Rattle.lines.proofs.contents.with_count.Goals.{then-is_full-via-then-is_full, then-is_full-via-else-is_full+then-entries-count, then-is_full-via-else-is_full+else-entries-count+then-entries-count-2}

pub returns-in_err-count : goal.returns-in_err-count
returns-in_err-count g c = rw (c.in_ok-before.was, c.from_residual-in_err-count.ensures) (exceeded_below _ _ (none_tried c.ranges.value c.try_from.result c.try_from.ensures c.in_err-count.ensures.value))

pub returns-then-is_full : goal.returns-then-is_full
returns-then-is_full g c =
    let count : c.args.value ≡ pos c.in_ok-count.count = count_tried c.ranges.value c.try_from.result c.try_from.ensures c.in_ok-count.ensures.value in
    rw c.in_ok-before.was
    (elim c.then-is_full.branch [
      | then-is_full-via-then-is_full w ↦ exceeded_full _ _ (omega (arith, eqb-true (length c.args.counts.now.items) g.row.N (sym w.if-is_full.ensures.value)))
      | then-is_full-via-else-is_full+then-entries-count w ↦ exceeded_sum _ _ count (omega arith)
      | then-is_full-via-else-is_full+else-entries-count+then-entries-count-2 w ↦ exceeded_sum _ _ count (omega arith)
    ])

pub returns : goal.returns
returns g c =
    let count : c.args.value ≡ pos c.in_ok-count.count = count_tried c.ranges.value c.try_from.result c.try_from.ensures c.in_ok-count.ensures.value in
    rw c.in_ok-before.was (held_more _ _ count (omega (arith, c.if-is_full.ensures.fits, eqb-false (length c.args.counts.now.items) g.row.N (sym c.if-is_full.ensures.value))) (omega arith) c.push.ensures.items)
