-- What only private functions cite: a period's results as one text.
-- Assumes nothing.
use mathlib.Core.List.{List, flatten}
use Rattle.std.specs.Prelude.{ℕ}
use Rattle.request.specs.declared.PeriodResult.{PeriodResult}
use Rattle.report.specs.Report.{result_parts}

-- its parts one after another
unfoldable pub result_line : PeriodResult → List ℕ
result_line r = flatten (result_parts r)
