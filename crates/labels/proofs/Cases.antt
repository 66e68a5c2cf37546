-- P1 to P8 hold, by computation. Assumes nothing.
use lib.Dec.{T}
use Rattle.formulas.specs.Formula.{holds, table, implies}
use Rattle.labels.specs.Tables.{table_implies}
use Rattle.labels.specs.Order.{flow_test, join}
use Rattle.labels.specs.Cases.{all_hold, label_cases}

pub label-cases : T (all_hold label_cases)
unfolding holds table implies table_implies flow_test join
label-cases = tt
