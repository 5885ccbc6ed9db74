-- `speeds::Asked::highest` meets its contract.
use Rattle.std.proofs.Common.{arith, sym, ◌∙◌}
use Rattle.speeds.proofs.Faster.{speed_rises}
use Rattle.speeds.proofs.Search.{search_down, search_told}
use Rattle.speeds.proofs.Asked.highest.Goals as goal

pub loop-low-preserved : goal.loop-low-preserved
loop-low-preserved c =
    let v = c.loop-low in
    let q = c.args.self.now in
    search_down _ _ v.low v.high _ v.invariant (omega arith) (omega (arith, v.invariant.order)) (speed_rises q.period q.cells.now q.place q.tenths q.train q.few)
    (sym c.is_below_at.ensures ∙ c.if-is_below_at.false)

pub returns : goal.returns
returns c = c.then_some.ensures ∙ search_told _ _ c.loop-low.low c.loop-low.high c.loop-low.invariant (omega arith)
