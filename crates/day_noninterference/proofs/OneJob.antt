-- A day of one job, admitted, whose span is a plain file's code shows what that file shows.
use mathlib.Core.List.{List, [], ◌∷◌, ◌++◌, append-nil}
use mathlib.Core.Path.{◌≡◌, refl, ap, ap₂, ◌∙◌, fun_ext}
use Prim.Native.Nat.{ℕ, ◌≤◌}
use native.Mathlib.Omega.{arith}
use borrow.Author.Tests.{le-leb}
use Rattle.formulas.specs.Formula.{holds, table}
use Rattle.labels.specs.Order.{flows}
use Rattle.labels.specs.declared.Label.{Label}
use Rattle.label_entries.specs.Entries.{well_formed_over, read_entry_over}
use Rattle.model.specs.Decoding.{u16, u32}
use Rattle.model.specs.Inputs.{input_slots}
use Rattle.model.specs.Running.{start_store}
use Rattle.file_sections.specs.Sections.{label_bytes_of, record_bytes_of, labels_over, read_labels_over, inputs_over, label_of_over}
use Rattle.script_file.specs.Sections.{header, record_bytes, code_bytes, label_at}
use Rattle.script_file.specs.Program.{file_inputs, file_run, file_account_over, file_program_over, file_run_over}
use Rattle.view.specs.Layout.{view}
use Rattle.view.specs.Reading.{file_view, file_view_over}
use Rattle.day_file.specs.Sections.{day_header, day_sections, day_label, day_inputs, jobs_of_day, job_from, jobs_from, span}
use Rattle.day_file.specs.declared.Job.{Job}
use Rattle.admission.specs.Admission.{fits, allowed, admitted, day_admitted}
use Rattle.day_jobs.specs.Running.{job_program_over, job_account_over, job_run, job_run_over, ran, turns_over, day_turns, day_turns_over}
use Rattle.day.specs.Views.{turn_view_over, each_turn, turn_views, day_view, day_view_over}

-- Day bs has the one job j, which it admits; file cs has the same labels, records, code, steps and places, and its labels 0
-- and 1 are the job's two.
pub record SameScript (bs cs : List ℕ) (j : Job) : Type 0 where
  pub one-job : jobs_of_day bs ≡ j ∷ []
  pub admits : j.steps ≤ (day_header bs).steps
  pub labels : (k : ℕ) → day_label bs k ≡ label_at cs k
  pub count : (day_header bs).records.count ≡ (header cs).records.count
  pub records : record_bytes_of (day_sections bs) bs ≡ record_bytes cs
  pub code : span bs j ≡ code_bytes cs
  pub steps : j.steps ≡ (header cs).steps
  pub places : j.places ≡ (header cs).places
  pub label : day_label bs j.label ≡ label_at cs 0
  pub clearance : day_label bs j.clearance ≡ label_at cs 1

module _ (bs cs : List ℕ) (j : Job) (s : SameScript bs cs j) where
  same_label : day_label bs ≡ label_at cs
  same_label = fun_ext s.labels

  same_inputs : day_inputs bs ≡ file_inputs cs
  unfolding inputs_over
  same_inputs = cc (same_label, s.records, s.count)

  same_run : job_run bs j (start_store (input_slots (day_inputs bs))) ≡ file_run cs
  unfolding job_run_over job_program_over job_account_over file_run_over file_program_over file_account_over
  same_run = cc (same_label, same_inputs, s.count, s.code, s.steps, s.places, s.label, s.clearance)

  one_turn : day_turns bs ≡ ran j.steps (job_run bs j (start_store (input_slots (day_inputs bs)))) ∷ []
  unfolding day_turns_over day_admitted admitted allowed fits turns_over
  one_turn = rw (s.one-job, le-leb j.steps (day_header bs).steps s.admits)

  pub one_job_view : (i : ℕ) → day_view bs i ≡ file_view cs i
  unfolding day_view_over each_turn turn_view_over file_view_over
  one_job_view i =
      ap (turn_views (λ l. flows l (day_label bs i))) one_turn
      ∙ append-nil (view (λ l. flows l (day_label bs i)) j.steps (job_run bs j (start_store (input_slots (day_inputs bs)))))
      ∙ ap₂ (view (λ l. flows l (day_label bs i))) s.steps same_run
      ∙ ap (λ (m : Label). view (λ l. flows l m) (header cs).steps (file_run cs)) (s.labels i)

-- ── such a day and such a file ──

-- LAB 1; BLOCK 9, 5 steps, 0 places; END; and the body, from 9 on: INPUT 0; OPEN; END, on a sealed record under ⟨player, True⟩
abbrev script : List ℕ
script = 0x02 ∷ 1 ∷ 0x19 ∷ 9 ∷ 0 ∷ 5 ∷ 0 ∷ 0 ∷ 0x00 ∷ 0x1D ∷ 0 ∷ 0x14 ∷ 0x00 ∷ []

abbrev labels_and_record : List ℕ
labels_and_record = 0 ∷ 0 ∷ 1 ∷ 0 ∷ 1 ∷ 0 ∷ 1 ∷ 7 ∷ 0 ∷ 0 ∷ 0 ∷ []

-- L 2, C 1, J 1, N 13, 20 steps; the job: caller 3, labels 0 and 1, 20 steps, 2 places, the whole code
unfoldable pub one_job : List ℕ
one_job =
    (2 ∷ 0 ∷ 20 ∷ 0 ∷ 1 ∷ 0 ∷ 25 ∷ 0 ∷ 1 ∷ 0 ∷ 31 ∷ 0 ∷ 13 ∷ 0 ∷ 43 ∷ 0 ∷ 20 ∷ 0 ∷ 0 ∷ 0 ∷ [])
    ++ labels_and_record
    ++ (3 ∷ 0 ∷ 1 ∷ 0 ∷ 20 ∷ 0 ∷ 2 ∷ 0 ∷ 0 ∷ 0 ∷ 13 ∷ 0 ∷ [])
    ++ script

-- L 2, C 1, N 13, S 20, K 2
unfoldable pub plain : List ℕ
plain = (2 ∷ 0 ∷ 16 ∷ 0 ∷ 1 ∷ 0 ∷ 21 ∷ 0 ∷ 13 ∷ 0 ∷ 27 ∷ 0 ∷ 20 ∷ 0 ∷ 2 ∷ 0 ∷ []) ++ labels_and_record ++ script

pub same_script : SameScript one_job plain (job_from one_job 31)
unfolding one_job plain day_header header u16 u32 job_from jobs_from label_of_over labels_over label_bytes_of record_bytes_of read_labels_over read_entry_over well_formed_over table holds span code_bytes
same_script =
    record {
      one-job = refl;
      admits = omega arith;
      labels = λ k. refl;
      count = refl;
      records = refl;
      code = refl;
      steps = refl;
      places = refl;
      label = refl;
      clearance = refl;
    }

-- So every reader is shown the same of both.
pub one_job_shown : (i : ℕ) → day_view one_job i ≡ file_view plain i
one_job_shown = one_job_view one_job plain (job_from one_job 31) same_script
