-- Demand 3 is not empty: two files that differ in a hidden number. Their code opens the hidden record inside a block and
-- goes on; the public reader is shown the run's ending, its steps and its places, byte for byte the same.
use mathlib.Core.Bool.{true, false}
use mathlib.Core.List.{List, [], ◌∷◌, ◌++◌}
use mathlib.Core.Logic.{◌≢◌}
use mathlib.Core.Path.{◌≡◌, refl, sym, ap, ◌∙◌}
use Prim.Native.Nat.{ℕ}
use native.Mathlib.Decide.{ℕ_discrete}
use native.Mathlib.Omega.{arith}
use lib.ListN.{set, replicate, length-set}
use lib.Seq.{get_or-set_other}
use Rattle.formulas.specs.Formula.{holds, table, implies}
use Rattle.labels.specs.Tables.{table_implies}
use Rattle.labels.specs.Order.{flow_test, flows, join}
use Rattle.label_entries.specs.Entries.{read_entry_over, well_formed_over}
use Rattle.model.specs.Decoding.{byte, u16, u32, operand_bytes, known, size, instrs, fetch, after}
use Rattle.model.specs.Operands.{pop_from, as_number, as_label, as_handle, as_sealed, as_reference, arity, drop_frame, operate, plan}
use Rattle.model.specs.Effects.{fail_to, yield, open_slot, label_slot, write_slot, contents_of, outcome, act}
use Rattle.model.specs.Inputs.{inputs, handles, input_slots}
use Rattle.model.specs.Running.{perform, step, resume, pay, run, runs, start_store}
use Rattle.script_file.specs.Sections.{header, sections, code_bytes, label_at}
use Rattle.code_check.specs.Sweep.{sweep, starts, operands_ok, instr_ok, may_be_last, code_ok}
use Rattle.script_file.specs.Checks.{size_ok, counts_ok, offsets_ok, passes1, passes2, passes3, passes6, passes7, refusal, passes4_over, passes5_over, refusal_over}
use Rattle.script_file.specs.Program.{file_account_over, file_program_over, file_run_over}
use Rattle.view_fields.specs.Fields.{little_endian, label_field, datum_field, contents_field, ending_number, result_field, kind_byte, record_field}
use Rattle.model.specs.State.{shown}
use Rattle.view.specs.Layout.{slot_field, record_fields, records_shown, counts, final, length_over, view_over}
use Rattle.view.specs.Reading.{file_view, file_view_over}
use Rattle.noninterference.specs.Alike.{legible, input_label, Hidden, Alike}
use Rattle.file_sections.specs.Sections.{label_bytes_of, record_bytes_of, labels_over, read_labels_over, inputs_over, label_of_over}
use Rattle.file_sections.specs.Checks.{every, records_ok}

-- L 2, C 1, N 13, S 20, K 2. Labels: public; ⟨player, True⟩, which is the clearance too. One sealed record, under ⟨player, True⟩,
-- whose number's first byte is at 23. Code: LAB 1; BLOCK 9, 5 steps, 0 places; END; and the body, from 9 on: INPUT 0; OPEN; END.
unfoldable pub template : List ℕ
template =
    2 ∷ 0 ∷ 16 ∷ 0 ∷ 1 ∷ 0 ∷ 21 ∷ 0 ∷ 13 ∷ 0 ∷ 27 ∷ 0 ∷ 20 ∷ 0 ∷ 2 ∷ 0
    ∷ 0 ∷ 0 ∷ 1 ∷ 0 ∷ 1
    ∷ 0 ∷ 1 ∷ 0 ∷ 0 ∷ 0 ∷ 0
    ∷ 0x02 ∷ 1 ∷ 0x19 ∷ 9 ∷ 0 ∷ 5 ∷ 0 ∷ 0 ∷ 0x00
    ∷ 0x1D ∷ 0 ∷ 0x14 ∷ 0x00 ∷ []

-- the file whose hidden number is n
unfoldable pub file : ℕ → List ℕ
file n = set template 23 n

-- what the public reader is shown of either: result, 8 steps (LAB 1, BLOCK 1 and 5, END 1), next place 2, no record, 206, 206;
-- the handle to the sealed outcome at place 1; the label public and the clearance ⟨player, True⟩
unfoldable pub public_view : List ℕ
public_view =
    1 ∷ 0 ∷ 8 ∷ 0 ∷ 2 ∷ 0 ∷ 0 ∷ 0 ∷ 206 ∷ 0 ∷ 206 ∷ 0
    ∷ 3 ∷ 0 ∷ 1 ∷ replicate 63 0
    ++ replicate 64 0xFF
    ++ replicate 32 0xAA ++ replicate 32 0xFF

-- by running both files, from bytes to view
pub record Computed : Type 0 where
  pub legible_7 : legible (file 7) 0 ≡ true
  pub legible_9 : legible (file 9) 0 ≡ true
  -- the record starts at 21, and its label, ⟨player, True⟩, doesn't flow to the public one
  pub one_record : (header (file 7)).records.count ≡ 1
  pub at_21 : (header (file 7)).records.offset ≡ 21
  pub hides : flows (input_label (sections (file 7)) (file 7) 0) (label_at (file 7) 0) ≡ false
  pub loads : refusal (file 7) ≡ 0
  pub shows : file_view (file 7) 0 ≡ public_view
  -- byte 406 of what the reader ⟨player, True⟩ is shown is of the outcome's number: the block did open the record
  pub opens_7 : byte (file_view (file 7) 1) 406 ≡ 7
  pub opens_9 : byte (file_view (file 9) 1) 406 ≡ 9

pub computed : Computed
unfolding file template public_view legible holds table implies table_implies flow_test join well_formed_over read_entry_over u16 u32 operand_bytes known size instrs fetch after pop_from as_number as_label as_handle as_sealed as_reference arity drop_frame operate plan fail_to yield open_slot label_slot write_slot contents_of outcome act inputs handles input_slots perform step resume pay run runs start_store header label_bytes_of record_bytes_of code_bytes read_labels_over labels_over label_of_over sweep starts operands_ok instr_ok may_be_last code_ok every size_ok counts_ok offsets_ok records_ok passes1 passes2 passes3 passes4_over passes5_over passes6 passes7 refusal_over inputs_over file_program_over file_account_over file_run_over little_endian label_field datum_field contents_field ending_number result_field kind_byte record_field shown slot_field record_fields records_shown counts final length_over view_over file_view_over
computed =
    record {
      legible_7 = refl;
      legible_9 = refl;
      one_record = refl;
      at_21 = refl;
      hides = refl;
      loads = refl;
      shows = refl;
      opens_7 = refl;
      opens_9 = refl;
    }

-- The two files are different, and alike for the public reader.
pub different : file 7 ≢ file 9
unfolding file template
different e = let z : ◌≡◌ {A = ℕ} 7 9 = ap (λ (bs : List ℕ). byte bs 23) e in omega arith

pub alike : Alike (file 7) (file 9) 0
unfolding file
alike = record { sized = length-set template 23 7 ∙ sym (length-set template 23 9); bytes = λ p n. test p n (ℕ_discrete p 23) }
  where
    hidden : (p : ℕ) → p ≡ 23 → Hidden (sections (file 7)) (file 7) 0 p
    hidden p e =
        record {
          input = 0;
          counted = omega (arith, computed.one_record);
          from = omega (arith, computed.at_21);
          to = omega (arith, computed.at_21);
          no_flow = computed.hides;
        }

    test : (p : ℕ) → ¬ ((legible (file 7) 0 ≡ true) × (legible (file 9) 0 ≡ true) × Hidden (sections (file 7)) (file 7) 0 p) → Dec (p ≡ 23)
        → byte (file 7) p ≡ byte (file 9) p
    test p n (yes e) = absurd (n (computed.legible_7, computed.legible_9, hidden p e))
    test p n (no e) = get_or-set_other template 23 p 7 0 e ∙ sym (get_or-set_other template 23 p 9 0 e)
