-- Each array is its list: written by tools/tables.py from the formulas, in whole numbers.
-- Assumes nothing.
use mathlib.Core.Path.{◌≡◌, refl}
use Rattle.decibel_tables.specs.declared.TheConstants.{DECADE, SHADOW, DISTANCE, ILLUMINATED, FINE, SINE}
use Rattle.decibel_tables.specs.Lists.{decade_list, shadow_list, distance_list, illuminated_list, fine_list, sine_list}

pub decade_is : DECADE ≡ decade_list
unfolding decade_list
decade_is = refl

pub shadow_is : SHADOW ≡ shadow_list
unfolding shadow_list
shadow_is = refl

pub distance_is : DISTANCE ≡ distance_list
unfolding distance_list
distance_is = refl

pub illuminated_is : ILLUMINATED ≡ illuminated_list
unfolding illuminated_list
illuminated_is = refl

pub fine_is : FINE ≡ fine_list
unfolding fine_list
fine_is = refl

pub sine_is : SINE ≡ sine_list
unfolding sine_list
sine_is = refl
