-- What a day that loads hands to the machine for a job, in parts, is what the definition runs the job with.
use mathlib.Core.List.{List}
use mathlib.Core.Path.{◌≡◌, ap, ◌∙◌}
use Prim.Native.Nat.{ℕ, ◌+◌, ◌*◌, ◌≤◌, ◌<◌}
use native.Mathlib.Omega.{arith}
use lib.ListN.{length, length-take, length-drop}
use Rattle.labels.specs.declared.Label.{Label}
use Rattle.model.specs.State.{Store}
use Rattle.model.specs.Inputs.{inputs}
use Rattle.model.specs.Running.{runs, program_of, start_control, start_account}
use Rattle.model.specs.FileLabels.{label_in}
use Rattle.operands.specs.Program.{count, program}
use Rattle.file_sections.specs.Sections.{record_bytes_of, inputs_over}
use Rattle.day_file.specs.declared.Header.{Header}
use Rattle.day_file.specs.declared.Job.{Job}
use Rattle.day_file.specs.Parts.{DayLoads}
use Rattle.day_file.specs.Sections.{day_header, day_sections, day_label, job_from, span}
use Rattle.day_file.proofs.Limits.{Counted, Placed, Fits}
use Rattle.day_file.proofs.Answers.{within-limits, in_place, day-labels, job-fits, few_jobs, most_bytes}
use Rattle.day_file.proofs.Findings.{records_in, span_in, records-in, span-in}
use Rattle.day_jobs.specs.Running.{job_program, job_program_over, job_account_over, job_run, job_run_over}
use Rattle.day_jobs.specs.Parts.{Runnable}

-- a day that loads, with its header and its labels
module _ {bs : List ℕ} {h : Header} {ls : List Label} (w : DayLoads bs h ls) where
  pub limits : Counted h
  limits = rw w.numbers (within-limits bs w.none)

  pub ordered : Placed h (length bs)
  ordered = rw w.numbers (in_place bs w.none)

  pub few : h.jobs.count ≤ 16
  few = rw w.numbers (few_jobs bs w.none).1

  -- where job k's bytes start
  pub starts_below : (k : ℕ) → k < h.jobs.count → h.jobs.offset + 12 * k < 70000
  starts_below k below = omega (arith, few, ordered.code, ordered.whole, most_bytes bs w.none)

  -- job k by the header that the code holds, and by the day's own
  pub below_all : {k : ℕ} → k < h.jobs.count → k < (day_header bs).jobs.count
  below_all below = rw (← w.numbers) below

  pub all_below : {k : ℕ} → h.jobs.count ≤ k → (day_header bs).jobs.count ≤ k
  all_below past = rw (← w.numbers) past

  pub is_job : (k : ℕ) {j : Job} → j ≡ job_from bs (h.jobs.offset + 12 * k) → j ≡ job_from bs ((day_header bs).jobs.offset + 12 * k)
  is_job k is = is ∙ ap (λ (g : Header). job_from bs (g.jobs.offset + 12 * k)) w.numbers

  pub labels_are : label_in ls ≡ day_label bs
  labels_are = rw w.labels (day-labels bs)

  -- the part of the file where the header says that the records are
  pub records_are : records_in h bs ≡ record_bytes_of (day_sections bs) bs
  records_are = records-in bs h w.numbers ordered.jobs

  pub records_length : length (records_in h bs) ≡ 6 * h.records.count
  records_length = simp (length-take, length-drop) (omega (arith, ordered.jobs, ordered.code, ordered.whole))

  pub records_short : length (records_in h bs) ≤ 384
  records_short = omega (arith, records_length, limits.records)

  -- ── what the code takes for the records, and a job ──

  module _ {rs : List ℕ} (are : rs ≡ record_bytes_of (day_sections bs) bs) where
    pub counted : count rs ≡ h.records.count
    counted = rw (are, ← records_are) (let e = records_length in omega arith)

    program_is : (j : Job) → program (span_in h bs j) ls rs ≡ job_program bs j
    unfolding program job_program_over inputs_over
    program_is j =
        rw (span-in bs h w.numbers j, labels_are, counted, are)
        (ap (λ (g : Header). program_of (span bs j) (day_label bs) (inputs (day_label bs) (record_bytes_of (day_sections bs) bs) g.records.count 0)) w.numbers)

    -- the run that the machine makes of the parts
    pub run_is : (j : Job) (l c : Label) (σ : Store) → l ≡ label_in ls j.label → c ≡ label_in ls j.clearance
        → runs (program (span_in h bs j) ls rs) start_control (start_account l c j.steps (count rs) j.places) σ ≡ job_run bs j σ
    unfolding job_run_over job_account_over
    run_is j l c σ el ec = rw (el, ec, program_is j, counted, labels_are, w.numbers)

  -- job k is one that the code can run
  pub job_runs : (k : ℕ) → k < h.jobs.count → Runnable h (job_from bs (h.jobs.offset + 12 * k)) bs
  job_runs k small =
      let f : Fits h (day_label bs) (job_from bs (h.jobs.offset + 12 * k)) =
      rw w.numbers (job-fits bs w.none k (rw (← w.numbers) small)) in
      record {
        caller = omega (arith, f.caller);
        span = omega (arith, f.inside, ordered.whole);
        short = omega (arith, f.inside, limits.code);
        inputs = f.inputs_fit;
        places = f.places;
      }
