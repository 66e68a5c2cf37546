-- All that is stated here is computed by the checker from the definitions; the lines under each statement open them.
use mathlib.Core.Bool.{true}
use mathlib.Core.List.{◌++◌}
use mathlib.Core.Path.{◌≡◌, refl}
use Rattle.formulas.specs.Formula.{table, implies, holds}
use Rattle.labels.specs.Tables.{table_implies}
use Rattle.labels.specs.Order.{flow_test, join, meet}
use Rattle.label_entries.specs.Entries.{well_formed_over, read_entry_over}
use Rattle.model.specs.Decoding.{u16, u32, operand_bytes, known, size, instrs, fetch, after}
use Rattle.model.specs.Operands.{pop_from, as_number, as_label, as_handle, as_sealed, as_reference, arity, drop_frame, operate, plan}
use Rattle.model.specs.Inputs.{inputs, handles, input_slots}
use Rattle.model.specs.Effects.{fail_to, yield, open_slot, label_slot, write_slot, contents_of, outcome, act}
use Rattle.model.specs.Running.{perform, step, resume, pay, run, runs, start_store}
use Rattle.script_file.specs.Sections.{header, code_bytes}
use Rattle.code_check.specs.Sweep.{sweep, starts, operands_ok, instr_ok, may_be_last, code_ok}
use Rattle.script_file.specs.Checks.{size_ok, counts_ok, offsets_ok, passes1, passes2, passes3, passes6, passes7, passes4_over, passes5_over, refusal_over}
use Rattle.script_file.specs.Program.{file_account_over, file_program_over, file_run_over}
use Rattle.labels.specs.Cases.{all_hold}
use Rattle.view_fields.specs.Fields.{little_endian, label_field, datum_field, contents_field, ending_number, result_field, kind_byte, record_field}
use Rattle.model.specs.State.{shown}
use Rattle.view.specs.Layout.{slot_field, record_fields, records_shown, counts, final, length_over, view_over}
use Rattle.view.specs.Reading.{file_view_over}
use Rattle.lines.specs.Lines.{hex, front_fields, record_field_widths, widths, spaced, line, lines, digits, decimal, refused_line, printed}
use Rattle.cases.specs.Table.{cases}
use Rattle.cases.specs.Example.{example, example_line}
use Rattle.file_sections.specs.Sections.{label_bytes_of, record_bytes_of, labels_over, read_labels_over, inputs_over, label_of_over}
use Rattle.file_sections.specs.Checks.{every, records_ok}

-- P1 to P12, and the cases of T-02 and T-03
pub all_cases_hold : all_hold cases ≡ true
unfolding table implies holds table_implies flow_test join meet well_formed_over read_entry_over u16 u32 operand_bytes known size instrs fetch after pop_from as_number as_label as_handle as_sealed as_reference arity drop_frame operate plan inputs handles input_slots fail_to yield open_slot label_slot write_slot contents_of outcome act perform step resume pay run runs start_store header label_bytes_of record_bytes_of code_bytes read_labels_over labels_over label_of_over sweep starts operands_ok instr_ok may_be_last code_ok every size_ok counts_ok offsets_ok records_ok passes1 passes2 passes3 passes4_over passes5_over passes6 passes7 refusal_over inputs_over file_program_over file_account_over file_run_over little_endian label_field datum_field contents_field result_field kind_byte record_field slot_field
all_cases_hold = refl

pub example_printed : printed example ≡ example_line ++ example_line
unfolding table implies holds table_implies flow_test join meet well_formed_over read_entry_over u16 u32 operand_bytes known size instrs fetch after pop_from as_number as_label as_handle as_sealed as_reference arity drop_frame operate plan inputs handles input_slots fail_to yield open_slot label_slot write_slot contents_of outcome act perform step resume pay run runs start_store header label_bytes_of record_bytes_of code_bytes read_labels_over labels_over label_of_over sweep starts operands_ok instr_ok may_be_last code_ok every size_ok counts_ok offsets_ok records_ok passes1 passes2 passes3 passes4_over passes5_over passes6 passes7 refusal_over inputs_over file_program_over file_account_over file_run_over little_endian label_field datum_field contents_field result_field kind_byte record_field slot_field ending_number shown record_fields records_shown counts final length_over view_over file_view_over hex front_fields record_field_widths widths spaced line lines digits decimal refused_line printed
example_printed = refl
