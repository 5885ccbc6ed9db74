-- `figures::ranges::screen_kept` meets its contract.
use Rattle.figures.specs.Rules.{screen_kept}
use lib.Dec.{lit<}
use Rattle.figures.proofs.Read.{segment_read}
use Rattle.figures.proofs.Same.{one_number}
use Rattle.figures.proofs.ranges.screen_kept.Goals as goal

pub returns : goal.returns
unfolding screen_kept
returns c =
    let f = segment_read c.args.s c.struct_told-2-1.given in
    simp (c.is_unscreened.ensures, c.unscreened_kept.ensures, c.screened_kept.ensures, c.screened_kept-2.ensures, one_number 1 _ (lit< tt) f.screen, one_number 2 _ (lit< tt) f.screen)
