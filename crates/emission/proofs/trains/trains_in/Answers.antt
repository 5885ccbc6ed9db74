-- `emission::trains::trains_in` meets its contract.
use mathlib.Core.Path.{◌∙◌, ap}
use Rattle.decibel.specs.Ints.{up}
use Rattle.figures.proofs.Read.{train_read}
use Rattle.emission.specs.Trains.{trains_in}
use Rattle.emission.proofs.trains.trains_in.Goals as goal

pub returns-in-Day : goal.returns-in-Day
unfolding trains_in
returns-in-Day c =
    rw c.in-Day.is (c.natural.ensures ∙ ap up (train_read c.args.train c.struct_told-1.given).day)

pub returns-in-Night : goal.returns-in-Night
unfolding trains_in
returns-in-Night c =
    rw c.in-Night.is (c.natural-in-Night.ensures ∙ ap up (train_read c.args.train c.struct_told-in-Night-1.given).night)
