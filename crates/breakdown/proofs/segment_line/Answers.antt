-- `breakdown::segment_line` meets its contract.
use Rattle.std.proofs.Common.{rules, ◌∙◌, Fits, w64}
use Rattle.breakdown.proofs.Parts.{segment_is}
use Rattle.breakdown.proofs.segment_line.Goals as goal

pub returns : goal.returns
returns c =
    let number : Fits w64 c.args.number = search rules in
    let parted = c.segment_breakdown_of-parts.ensures.is in
    c.concatenated.ensures
    ∙ segment_is c.args.number c.args.segment number.fits parted.is parted.small c.format.ensures.text c.path_name.ensures c.closing.ensures
    (c.as_str.ensures.value ∙ c.text-distance.ensures)
    (c.as_str-2.ensures.value ∙ c.text-air.ensures)
    (c.as_str-3.ensures.value ∙ c.text-path.ensures)
    (c.as_str-4.ensures.value ∙ c.text-angle.ensures)
    (c.as_str-5.ensures.value ∙ c.text-chart.ensures)
    (c.as_str-6.ensures.value ∙ c.text-track.ensures)
    (c.as_str-7.ensures.value ∙ c.text-ballast.ensures)
    (c.as_str-8.ensures.value ∙ c.text-facade.ensures)
    (c.as_str-9.ensures.value ∙ c.text-opposite.ensures)
