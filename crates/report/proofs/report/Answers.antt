-- `report::report` meets its contract.
use mathlib.Core.Path.{refl}
use mir.Syntax.{w32, w64}
use mir.Val.{Fits}
use Rattle.std.proofs.Common.{rules}
use Rattle.report.proofs.Lines.{Held, answer_length}
use Rattle.report.proofs.Reports.{text_reported}
use Rattle.report.proofs.report.Goals as goal

pub returns-in-Ok : goal.returns-in-Ok
returns-in-Ok c =
    let day = c.in-Ok.results.day in
    let night = c.in-Ok.results.night in
    let by_day : Fits w32 day.close = search rules in
    let by_night : Fits w32 night.close = search rules in
    let day_held : Held day.level = λ z e. search rules in
    let night_held : Held night.level = λ z e. search rules in
    text_reported c.args.text.now _ (rw c.in-Ok.is at c.text_levels.ensures.answered) refl (answer_length day night day_held by_day.fits night_held by_night.fits) tt

pub returns-in-Err : goal.returns-in-Err
returns-in-Err c =
    let line : Fits w64 c.in-Err.fault.line = search rules in
    text_reported c.args.text.now _ (rw c.in-Err.is at c.text_levels.ensures.answered) refl tt line.fits
