-- `emission::trains::trains_level` meets its contract.
use native.Mathlib.Omega.{arith}
use Rattle.emission.proofs.TrainsStep.{none_run, some_run}
use Rattle.emission.proofs.trains.trains_level.Goals as goal

pub returns-then-trains_in-eq0 : goal.returns-then-trains_in-eq0
returns-then-trains_in-eq0 c =
    none_run c.args.period c.args.kept.train c.trains_in.ensures c.if-trains_in-eq0.true

pub returns : goal.returns
returns c =
    some_run c.args.period c.args.kept.train (omega (arith, c.if-trains_in-eq0.false, c.trains_in.ensures)) c.trains_step.ensures
