-- `figures::in_shadow` meets its contract.
use Rattle.decibel.proofs.Words.{back, back64}
use Rattle.figures.specs.Geometry.{in_shadow}
use Rattle.figures.proofs.in_shadow.Goals as goal

pub returns : goal.returns
unfolding in_shadow
returns c =
    let s = c.args.s in
    let g = c.struct_told-4-1.given in
    rw (back64 c.product.result c.product.type_inv, back64 c.product-2.result c.product-2.type_inv)
    (simp (c.product.ensures, c.product-2.ensures, back s.distance g.0.1, back s.height g.1.0.1, back s.setback g.1.1.1.1.1.1.1.0.1, back s.top g.1.1.1.1.1.1.1.1.0.1))
