-- What a file's parts are to the machine: code, labels, input records.
use Rattle.std.specs.Prelude.{ℕ, ◌/◌, List, length}
use Rattle.labels.specs.declared.Label.{Label}
use Rattle.model.specs.FileLabels.{label_in}
use Rattle.model.specs.State.{Program}
use Rattle.model.specs.Inputs.{inputs}
use Rattle.model.specs.Running.{program_of}

-- how many input records there are in a list of bytes
abbrev pub count : List ℕ → ℕ
count rs = length rs / 6

unfoldable pub program : List ℕ → List Label → List ℕ → Program
program code ls rs = program_of code (label_in ls) (inputs (label_in ls) rs (count rs) 0)
