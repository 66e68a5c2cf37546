-- Bench cases: "Put P1 to P12 into one table checked by one fact about it". T-02's and T-03's follow them.
use Rattle.std.specs.Prelude.{List, ◌++◌}
use Rattle.labels.specs.Cases.{Case, label_cases}
use Rattle.cases.specs.Machine.{machine_cases}
use Rattle.cases.specs.WhichHalf.{which_half_cases}
use Rattle.cases.specs.Catching.{catching_cases}

abbrev pub cases : List Case
cases = label_cases ++ machine_cases ++ which_half_cases ++ catching_cases
