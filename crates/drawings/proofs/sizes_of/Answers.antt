-- `drawings::sizes_of` meets its contract.
use Rattle.drawings.proofs.FirstLine.{torn_sizes, refused_sizes, counts_most, counted_sizes}
use Rattle.drawings.proofs.sizes_of.Goals as goal

pub returns-in_err-line : goal.returns-in_err-line
returns-in_err-line c = rw c.from_residual.ensures (torn_sizes c.args.text.now c.in_err-line.ensures)

pub returns-in_err-counts : goal.returns-in_err-counts
returns-in_err-counts c = rw c.from_residual-in_err-counts.ensures (refused_sizes c.args.text.now c.in_ok-line.ensures.0 _ c.contents_of.ensures c.in_err-counts.ensures.value)

pub sum_of-requires : goal.sum_of-requires
sum_of-requires c = counts_most c.args.text.now c.in_ok-line.ensures.0 _ c.contents_of.ensures c.in_ok-counts.ensures.value c.as_slice.ensures.value

pub returns : goal.returns
returns c =
    counted_sizes c.args.text.now c.in_ok-line.ensures.0 _ c.contents_of.ensures c.in_ok-counts.ensures.value c.as_slice.ensures.value c.len.ensures.value c.sum_of.ensures
