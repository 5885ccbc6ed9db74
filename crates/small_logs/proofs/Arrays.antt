-- Each array is its list: written by tools/tables.py from the formulas, in whole numbers.
-- Assumes nothing.
use mathlib.Core.Path.{◌≡◌, refl}
use Rattle.small_logs.specs.declared.TheConstants.{SMALL_LOG, TWENTY_LOG}
use Rattle.small_logs.specs.Lists.{small_log_list, twenty_log_list}

pub small_log_is : SMALL_LOG ≡ small_log_list
unfolding small_log_list
small_log_is = refl

pub twenty_log_is : TWENTY_LOG ≡ twenty_log_list
unfolding twenty_log_list
twenty_log_is = refl
