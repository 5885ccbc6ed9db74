-- Each array is its list: written by tools/tables.py from the formulas, in whole numbers.
-- Assumes nothing.
use mathlib.Core.Path.{◌≡◌, refl}
use Rattle.energy_tables.specs.declared.TheConstants.{WEIGHT, POWER, MARK_BEGIN, MARK_END}
use Rattle.energy_tables.specs.Lists.{weight_list, power_list, mark_begin_list, mark_end_list}

pub weight_is : WEIGHT ≡ weight_list
unfolding weight_list
weight_is = refl

pub power_is : POWER ≡ power_list
unfolding power_list
power_is = refl

pub mark_begin_is : MARK_BEGIN ≡ mark_begin_list
unfolding mark_begin_list
mark_begin_is = refl

pub mark_end_is : MARK_END ≡ mark_end_list
unfolding mark_end_list
mark_end_is = refl
