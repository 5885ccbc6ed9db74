-- `propagation::sum_of` meets its contract.
use Rattle.propagation.proofs.SegmentSum.{opposite_fits, angle_fits, air_fits, distance_fits, sum_fits, sum_is}
use Rattle.propagation.proofs.sum_of.Goals as goal

pub overflow_add-across-2 : goal.overflow_add-across-2
overflow_add-across-2 c = opposite_fits c.requires c.readings_of-readings.ensures

pub overflow_add-across-3 : goal.overflow_add-across-3
overflow_add-across-3 c = angle_fits c.requires c.readings_of-readings.ensures

pub overflow_add-result : goal.overflow_add-result
overflow_add-result c = air_fits c.requires c.readings_of-readings.ensures

pub overflow_add-result-2 : goal.overflow_add-result-2
overflow_add-result-2 c = distance_fits c.requires c.readings_of-readings.ensures

pub overflow_cast-result : goal.overflow_cast-result
overflow_cast-result c = sum_fits c.requires c.readings_of-readings.ensures

pub returns : goal.returns
returns c = sum_is c.requires c.readings_of-readings.ensures
