-- `request::close_segments` meets its contract.
use borrow.Author.Tests.{tests}
use Rattle.std.proofs.Common.{rules, sym}
use Rattle.std.proofs.lemmas.Iterator.{YieldsList-from_slice, YieldsList-from_take}
use Rattle.std.proofs.lemmas.Iterator.Consumers.{YieldsList-from_enumerate, YieldsList-from_filter, count_from_yields_List}
use Rattle.study.specs.Add.{ours}
use Rattle.propagation.specs.declared.Propagation.{Propagation}
use Rattle.request.specs.Request.{places_of}
use Rattle.request.proofs.Hearing.{is_counted, close_none, close_segments_by}
use Rattle.request.proofs.close_segments.Goals as goal

pub returns-then-not-any_close : goal.returns-then-not-any_close
returns-then-not-any_close c = close_none (λ (a : Propagation). a.close) (places_of c.args.entries.now) c.args.levels.now c.args.added.now (sym c.if-not-any_close.ensures)

pub returns : goal.returns
returns c =
    let heard = c.heard_segments-heard.ensures in
    close_segments_by heard c.args.added.now
    (count_from_yields_List _ _ c.count.ensures.ran
    (YieldsList-from_filter _ (is_counted _) (YieldsList-from_take ours.segments (YieldsList-from_enumerate (YieldsList-from_slice c.args.added.now cc) cc) cc) c.filter.ensures.closure
    (λ x b q k. search (rules, tests))))
