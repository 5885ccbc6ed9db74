-- `propagation::ground::ground_step` meets its contract.
use mathlib.Core.Bool.{false}
use mathlib.Core.Path.{◌≡◌, subst}
use lib.IntN.{pos}
use Rattle.std.proofs.Common.{rules}
use Rattle.propagation.specs.Private.{PathTenths}
use Rattle.propagation.proofs.GroundStep.{path_near, path_far}
use Rattle.propagation.proofs.ground.ground_step.Goals as goal
use Rattle.propagation.proofs.Chain.{in_range}

pub returns-then-natural-le2500 : goal.returns-then-natural-le2500
returns-then-natural-le2500 c =
    let none : record { tenths = pos 0; close = false } ≡ c.default.result = search rules in
    subst (PathTenths c.args.ranged.segment) none (path_near (in_range c.args.ranged) c.requires c.natural.ensures c.if-natural-le2500.true)

pub returns : goal.returns
returns c =
    path_far (in_range c.args.ranged) c.requires c.natural.ensures c.if-natural-le2500.false c.attenuation_of-a.ensures c.ground_tenths.ensures c.is_close.ensures
