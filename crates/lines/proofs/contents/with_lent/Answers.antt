-- `lines::contents::with_lent` meets its contract.
use Rattle.std.proofs.Common.{◌≡◌, pos, arith}
use Rattle.lines.proofs.AsCount.{count_tried, none_tried}
use Rattle.lines.proofs.Entries.{exceeded_below, exceeded_sum}
use Rattle.lines.proofs.Lent.{lent_full, lent_more}
use Rattle.lines.proofs.contents.with_lent.Goals as goal
use Rattle.lines.proofs.contents.with_lent.Goals.{then-counts-n-via-then-counts-n, then-counts-n-via-else-counts-n+then-entries-count, then-counts-n-via-else-counts-n+else-entries-count+then-entries-count-2}

pub returns-in_err-count-clause-next : goal.returns-in_err-count-clause-next
returns-in_err-count-clause-next c = rw (c.in_ok-before.was, c.from_residual-in_err-count.ensures) (exceeded_below _ _ (none_tried c.ranges.value c.try_from.result c.try_from.ensures c.in_err-count.ensures.value))

pub returns-then-counts-n-clause-next : goal.returns-then-counts-n-clause-next
returns-then-counts-n-clause-next c =
    let count : c.args.value ≡ pos c.in_ok-count.count = count_tried c.ranges.value c.try_from.result c.try_from.ensures c.in_ok-count.ensures.value in
    rw c.in_ok-before.was
    (elim c.then-counts-n.branch [
      | then-counts-n-via-then-counts-n w ↦ lent_full _ _ c.args.counts.now (omega arith)
      | then-counts-n-via-else-counts-n+then-entries-count w ↦ exceeded_sum _ _ count (omega arith)
      | then-counts-n-via-else-counts-n+else-entries-count+then-entries-count-2 w ↦ exceeded_sum _ _ count (omega arith)
    ])

pub returns-clause-next : goal.returns-clause-next
returns-clause-next c =
    let count : c.args.value ≡ pos c.in_ok-count.count = count_tried c.ranges.value c.try_from.result c.try_from.ensures c.in_ok-count.ensures.value in
    rw c.in_ok-before.was (lent_more _ _ c.args.counts.now count (omega arith) (omega arith))
