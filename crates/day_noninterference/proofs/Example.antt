-- Demand 3 over a day is not empty: two days that differ in a hidden number. Job 1 opens the hidden record inside a block and
-- writes into a public reference, job 2 reads what job 1 wrote, and job 3 is skipped. The public reader is shown the three
-- views byte for byte the same.
use mathlib.Core.Bool.{true, false}
use mathlib.Core.List.{List, [], ◌∷◌, ◌++◌}
use mathlib.Core.Logic.{◌≢◌}
use mathlib.Core.Path.{◌≡◌, refl, sym, ap, ◌∙◌}
use Prim.Native.Nat.{ℕ}
use native.Mathlib.Decide.{ℕ_discrete}
use native.Mathlib.Omega.{arith}
use lib.ListN.{set, replicate, length-set}
use lib.Seq.{get_or-set_other}
use Rattle.formulas.specs.Formula.{holds, table, implies}
use Rattle.labels.specs.Tables.{table_implies}
use Rattle.labels.specs.Order.{flow_test, flows, join}
use Rattle.label_entries.specs.Entries.{well_formed_over, read_entry_over}
use Rattle.model.specs.State.{shown}
use Rattle.model.specs.Decoding.{byte, u16, u32, operand_bytes, known, size, instrs, fetch, after}
use Rattle.model.specs.Operands.{pop_from, as_number, as_label, as_handle, as_sealed, as_reference, arity, drop_frame, operate, plan}
use Rattle.model.specs.Effects.{fail_to, yield, open_slot, label_slot, write_slot, contents_of, outcome, act}
use Rattle.model.specs.Inputs.{inputs, handles, input_slots}
use Rattle.model.specs.Running.{perform, step, resume, pay, run, runs, start_store}
use Rattle.code_check.specs.Sweep.{sweep, starts, operands_ok, instr_ok, may_be_last, code_ok}
use Rattle.file_sections.specs.Sections.{label_bytes_of, record_bytes_of, labels_over, read_labels_over, inputs_over, label_of_over}
use Rattle.file_sections.specs.Checks.{every, records_ok}
use Rattle.day_file.specs.Sections.{day_header, day_sections, day_label, job_from, jobs_from, span}
use Rattle.day_file.specs.Checks.{size_ok, counts_ok, offsets_ok, job_ok, jobs_ok, span_ok, passes1, passes2, passes3, passes4_over, passes6, passes7, passes10_over, day_refusal, day_refusal_over}
use Rattle.view_fields.specs.Fields.{little_endian, label_field, datum_field, contents_field, ending_number, result_field, kind_byte, record_field}
use Rattle.view.specs.Layout.{slot_field, record_fields, records_shown, counts, final, length_over, view_over}
use Rattle.day_jobs.specs.JobEnd.{kept_datum, kept_contents, kept_slot, end_slot, end_from}
use Rattle.admission.specs.Admission.{fits, rest, allowed, left_after, admitted, day_admitted}
use Rattle.day_jobs.specs.Running.{job_program_over, job_account_over, job_run_over, store_after_over, turns_over, day_turns_over}
use Rattle.day.specs.Views.{skipped_view_over, turn_view_over, each_turn, day_view, day_view_over}
use Rattle.noninterference.specs.Alike.{input_label, Hidden}
use Rattle.day_noninterference.specs.Alike.{day_legible, DayAlike}

-- L 2, C 2, J 3, N 25, 25 steps for each caller. Labels: public; ⟨player, True⟩. A sealed record under ⟨player, True⟩, whose number's first byte
-- is at 27, and a public reference.
--   job 1  caller 0, public, cleared to ⟨player, True⟩, 20 steps, 3 places. LAB 1; BLOCK 17, 5 steps, 0 places; PUSH 42; INPUT 1; WRITE; END;
--          and the body, from 17 on: INPUT 0; OPEN; END
--   job 2  caller 1, public, cleared to public, 10 steps, 2 places. INPUT 1; READ; END
--   job 3  as job 2, but caller 0's, who has 5 steps left
unfoldable pub template : List ℕ
template =
    2 ∷ 0 ∷ 20 ∷ 0 ∷ 2 ∷ 0 ∷ 25 ∷ 0 ∷ 3 ∷ 0 ∷ 37 ∷ 0 ∷ 25 ∷ 0 ∷ 73 ∷ 0 ∷ 25 ∷ 0 ∷ 0 ∷ 0
    ∷ 0 ∷ 0 ∷ 1 ∷ 0 ∷ 1
    ∷ 0 ∷ 1 ∷ 0 ∷ 0 ∷ 0 ∷ 0
    ∷ 1 ∷ 0 ∷ 0 ∷ 0 ∷ 0 ∷ 0
    ∷ 0 ∷ 0 ∷ 1 ∷ 0 ∷ 20 ∷ 0 ∷ 3 ∷ 0 ∷ 0 ∷ 0 ∷ 21 ∷ 0
    ∷ 1 ∷ 0 ∷ 0 ∷ 0 ∷ 10 ∷ 0 ∷ 2 ∷ 0 ∷ 21 ∷ 0 ∷ 4 ∷ 0
    ∷ 0 ∷ 0 ∷ 0 ∷ 0 ∷ 10 ∷ 0 ∷ 2 ∷ 0 ∷ 21 ∷ 0 ∷ 4 ∷ 0
    ∷ 0x02 ∷ 1 ∷ 0x19 ∷ 17 ∷ 0 ∷ 5 ∷ 0 ∷ 0 ∷ 0x01 ∷ 42 ∷ 0 ∷ 0 ∷ 0 ∷ 0x1D ∷ 1 ∷ 0x18 ∷ 0x00
    ∷ 0x1D ∷ 0 ∷ 0x14 ∷ 0x00
    ∷ 0x1D ∷ 1 ∷ 0x17 ∷ 0x00 ∷ []

-- the day whose hidden number is n
unfoldable pub day : ℕ → List ℕ
day n = set template 27 n

-- the reference as both jobs leave it: place 1, a reference, public, the number 42
abbrev reference : List ℕ
reference = 1 ∷ 1 ∷ replicate 64 0xFF ++ 1 ∷ 0 ∷ 42 ∷ replicate 63 0

-- What the public reader is shown of either. Job 1: result, 11 steps (a BLOCK's 5 among them), next place 3, one record; the
-- handle to the sealed outcome at place 2. Job 2: result, 3 steps, next place 2, one record; the number 42. Job 3: skipped.
unfoldable pub public_views : List ℕ
public_views =
    (1 ∷ 0 ∷ 11 ∷ 0 ∷ 3 ∷ 0 ∷ 1 ∷ 0 ∷ 206 ∷ 0 ∷ 82 ∷ 1
    ∷ 3 ∷ 0 ∷ 2 ∷ replicate 63 0
    ++ replicate 64 0xFF
    ++ replicate 32 0xAA ++ replicate 32 0xFF
    ++ reference)
    ++ (1 ∷ 0 ∷ 3 ∷ 0 ∷ 2 ∷ 0 ∷ 1 ∷ 0 ∷ 206 ∷ 0 ∷ 82 ∷ 1
    ∷ 1 ∷ 0 ∷ 42 ∷ replicate 63 0
    ++ replicate 64 0xFF
    ++ replicate 64 0xFF
    ++ reference)
    ++ (4 ∷ 0 ∷ 0 ∷ 0 ∷ 0 ∷ 0 ∷ 0 ∷ 0 ∷ 206 ∷ 0 ∷ 206 ∷ 0 ∷ replicate 194 0)

-- by running both days, from bytes to views
pub record Computed : Type 0 where
  pub legible_7 : day_legible (day 7) 0 ≡ true
  pub legible_9 : day_legible (day 9) 0 ≡ true
  -- the hidden record starts at 25, and its label, ⟨player, True⟩, doesn't flow to the public one
  pub two_records : (day_header (day 7)).records.count ≡ 2
  pub at_25 : (day_header (day 7)).records.offset ≡ 25
  pub hides : flows (input_label (day_sections (day 7)) (day 7) 0) (day_label (day 7) 0) ≡ false
  pub loads : day_refusal (day 7) ≡ 0
  pub shows : day_view (day 7) 0 ≡ public_views
  -- byte 538 of what the reader ⟨player, True⟩ is shown is of the outcome's number: the block did open the record
  pub opens_7 : byte (day_view (day 7) 1) 538 ≡ 7
  pub opens_9 : byte (day_view (day 9) 1) 538 ≡ 9

pub computed : Computed
unfolding day template public_views day_legible holds table implies table_implies flow_test join well_formed_over read_entry_over u16 u32 operand_bytes known size instrs fetch after pop_from as_number as_label as_handle as_sealed as_reference arity drop_frame operate plan fail_to yield open_slot label_slot write_slot contents_of outcome act inputs handles input_slots perform step resume pay run runs start_store day_header label_bytes_of record_bytes_of read_labels_over labels_over label_of_over sweep starts operands_ok instr_ok may_be_last code_ok every size_ok counts_ok offsets_ok records_ok job_from jobs_from span job_ok jobs_ok span_ok passes1 passes2 passes3 passes4_over passes6 passes7 passes10_over day_refusal_over inputs_over kept_datum kept_contents kept_slot end_slot end_from job_program_over job_account_over job_run_over store_after_over fits rest allowed left_after admitted day_admitted turns_over day_turns_over little_endian label_field datum_field contents_field ending_number result_field kind_byte record_field shown slot_field record_fields records_shown counts final length_over view_over skipped_view_over turn_view_over each_turn day_view_over
computed =
    record {
      legible_7 = refl;
      legible_9 = refl;
      two_records = refl;
      at_25 = refl;
      hides = refl;
      loads = refl;
      shows = refl;
      opens_7 = refl;
      opens_9 = refl;
    }

-- The two days are different, and alike for the public reader.
pub different : day 7 ≢ day 9
unfolding day template
different e = let z : ◌≡◌ {A = ℕ} 7 9 = ap (λ (bs : List ℕ). byte bs 27) e in omega arith

pub alike : DayAlike (day 7) (day 9) 0
unfolding day
alike = record { sized = length-set template 27 7 ∙ sym (length-set template 27 9); bytes = λ p n. test p n (ℕ_discrete p 27) }
  where
    hidden : (p : ℕ) → p ≡ 27 → Hidden (day_sections (day 7)) (day 7) 0 p
    hidden p e =
        record {
          input = 0;
          counted = omega (arith, computed.two_records);
          from = omega (arith, computed.at_25);
          to = omega (arith, computed.at_25);
          no_flow = computed.hides;
        }

    test : (p : ℕ) → ¬ ((day_legible (day 7) 0 ≡ true) × (day_legible (day 9) 0 ≡ true) × Hidden (day_sections (day 7)) (day 7) 0 p) → Dec (p ≡ 27)
        → byte (day 7) p ≡ byte (day 9) p
    test p n (yes e) = absurd (n (computed.legible_7, computed.legible_9, hidden p e))
    test p n (no e) = get_or-set_other template 27 p 7 0 e ∙ sym (get_or-set_other template 27 p 9 0 e)
