-- `figures::square` meets its contract.
use mathlib.Core.Path.{◌∙◌, ap₂}
use lib.IntN.{◌*ℤ◌}
use mir.Facts.{to_z-of_z}
use Rattle.decibel.proofs.Words.{back64}
use Rattle.figures.proofs.Squares.{square_of}
use Rattle.figures.proofs.square.Goals as goal

pub returns : goal.returns
returns c =
    let a = to_z-of_z c.ranges.a in
    square_of c.args.a c.ranges.a.sfits (back64 c.product.result c.product.type_inv ∙ c.product.ensures ∙ ap₂ ◌*ℤ◌ a a)
