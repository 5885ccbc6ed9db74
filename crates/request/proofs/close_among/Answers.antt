-- `request::close_among` meets its contract.
use borrow.Author.Tests.{tests}
use Rattle.std.proofs.Common.{rules, sym}
use Rattle.std.proofs.lemmas.Iterator.{YieldsList-from_slice, YieldsList-from_take}
use Rattle.std.proofs.lemmas.Iterator.Consumers.{YieldsList-from_enumerate, YieldsList-from_filter, count_from_yields_List}
use Rattle.study.specs.Add.{ours}
use Rattle.request.proofs.Hearing.{is_counted_among, none_among, close_among_by}
use Rattle.request.proofs.close_among.Goals as goal

pub returns-then-not-any_marked : goal.returns-then-not-any_marked
returns-then-not-any_marked c = none_among c.args.places.now c.args.levels.now c.args.close.now (sym c.if-not-any_marked.ensures)

pub returns : goal.returns
returns c =
    let heard = c.heard_among-heard.ensures in
    close_among_by heard c.args.close.now
    (count_from_yields_List _ _ c.count.ensures.ran
    (YieldsList-from_filter _ (is_counted_among _) (YieldsList-from_take ours.segments (YieldsList-from_enumerate (YieldsList-from_slice c.args.close.now cc) cc) cc) c.filter.ensures.closure
    (λ x b q k. search (rules, tests))))
