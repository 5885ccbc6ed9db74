-- `breakdown::EntryLine::text` meets its contract.
use Rattle.std.proofs.Common.{rules, ◌∙◌, Fits, w32, w64}
use mir.Facts.{to_z-of_z}
use mir.Val.{SFits}
use Rattle.breakdown.proofs.Parts.{Short, entry_is}
use Rattle.breakdown.proofs.EntryLine.text.Goals as goal

pub returns : goal.returns
returns c =
    let line = c.args.self in
    let number : Fits w64 line.number = search rules in
    let segment : Fits w64 line.segment = search rules in
    let day : SFits w32 line.cells.day = search rules in
    let night : SFits w32 line.cells.night = search rules in
    let short : Short c.as_str-4.result.now c.as_str-5.result.now c.as_str-6.result.now c.as_str-7.result.now = record { by_day = c.as_str-4.ensures.fits; by_night = c.as_str-5.ensures.fits; day = c.as_str-6.ensures.fits; night = c.as_str-7.ensures.fits } in
    c.concatenated.ensures
    ∙ entry_is line.number line.segment line.train line.cells.day line.cells.night number.fits segment.fits c.train_breakdown_of-parts.ensures short c.format.ensures.text c.format-2.ensures.text
    (c.as_str.ensures.value ∙ c.text-speed.ensures)
    (c.as_str-2.ensures.value ∙ c.text-rolling.ensures)
    (c.as_str-3.ensures.value ∙ c.text-vehicles.ensures)
    (c.as_str-4.ensures.value ∙ c.text-by_day.ensures)
    (c.as_str-5.ensures.value ∙ c.text-by_night.ensures)
    (c.as_str-6.ensures.value ∙ c.text-day.ensures)
    (c.as_str-7.ensures.value ∙ c.text-night.ensures)
    (rw (to_z-of_z day) at c.level_of.ensures)
    (rw (to_z-of_z night) at c.level_of-2.ensures)
