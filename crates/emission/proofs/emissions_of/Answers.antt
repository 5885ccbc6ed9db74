-- `emission::emissions_of` meets its contract.
use mathlib.Core.Path.{refl}
use Rattle.figures.specs.declared.Period.TheVariants.{Day, Night}
use Rattle.figures.specs.Periods.{in_period}
use Rattle.emission.proofs.Emission.{base_below, emitted}
use Rattle.emission.proofs.emissions_of.Goals as goal

pub raise-requires : goal.raise-requires
raise-requires c = let b = c.train_breakdown_of-parts in (base_below b.result b.ensures, b.ensures.day)

pub raise-requires-2 : goal.raise-requires-2
raise-requires-2 c = let b = c.train_breakdown_of-parts in (base_below b.result b.ensures, b.ensures.night)

pub returns : goal.returns
unfolding in_period
returns c =
    let b = c.train_breakdown_of-parts in
    let t = c.args.train in
    (emitted b.result b.ensures Day t refl c.raise.ensures, emitted b.result b.ensures Night t refl c.raise-2.ensures)
