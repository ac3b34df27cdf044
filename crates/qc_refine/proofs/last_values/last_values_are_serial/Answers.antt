use Rattle.qc_refine.proofs.Order.LastValues.{last_value, last_values}
use Rattle.qc_refine.proofs.last_values.last_values_are_serial.Goals as goal

pub returns-clause-one : goal.returns-clause-one
returns-clause-one c = λ setting values past rec. last_value setting values past rec

pub returns-clause-every : goal.returns-clause-every
returns-clause-every c = last_values
