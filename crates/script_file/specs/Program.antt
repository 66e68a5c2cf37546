-- What a file that loads is run with, and its run, over n principals.
use Rattle.std.specs.Prelude.{List, ℕ}
use Rattle.labels.specs.Tables.{principals}
use Rattle.model.specs.State.{Program, Outcome}
use Rattle.model.specs.declared.Account.{Account}
use Rattle.model.specs.Inputs.{Input, input_slots}
use Rattle.model.specs.Running.{runs, program_of, start_control, start_account, start_store}
use Rattle.file_sections.specs.Sections.{inputs_over}
use Rattle.script_file.specs.Sections.{header, sections, code_bytes, label_at_over}

abbrev pub file_inputs_over : ℕ → List ℕ → List Input
file_inputs_over n bs = inputs_over n (sections bs) bs

unfoldable pub file_program_over : ℕ → List ℕ → Program
file_program_over n bs = program_of (code_bytes bs) (label_at_over n bs) (file_inputs_over n bs)

-- "Label 0 is the starting label and label 1 the starting clearance."
unfoldable pub file_account_over : ℕ → List ℕ → Account
file_account_over n bs =
    start_account (label_at_over n bs 0) (label_at_over n bs 1) (header bs).steps (header bs).records.count (header bs).places

unfoldable pub file_run_over : ℕ → List ℕ → Outcome
file_run_over n bs =
    runs (file_program_over n bs) start_control (file_account_over n bs) (start_store (input_slots (file_inputs_over n bs)))

-- over the principals that there are
abbrev pub file_inputs : List ℕ → List Input
file_inputs = file_inputs_over principals

abbrev pub file_program : List ℕ → Program
file_program = file_program_over principals

abbrev pub file_account : List ℕ → Account
file_account = file_account_over principals

abbrev pub file_run : List ℕ → Outcome
file_run = file_run_over principals
