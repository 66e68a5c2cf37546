-- The jobs of a day, in order, on one set of records, over n principals.
use Rattle.std.specs.Prelude.{Bool, true, false, List, [], ◌∷◌, ℕ}
use Rattle.labels.specs.Tables.{principals}
use Rattle.model.specs.State.{Store, Program, Outcome}
use Rattle.model.specs.declared.Account.{Account}
use Rattle.model.specs.Inputs.{input_slots}
use Rattle.model.specs.Running.{runs, program_of, start_control, start_account, start_store}
use Rattle.day_file.specs.declared.Job.{Job}
use Rattle.day_file.specs.Sections.{day_header, day_label_over, day_inputs_over, jobs_of_day, span}
use Rattle.admission.specs.Admission.{day_admitted}
use Rattle.day_jobs.specs.JobEnd.{end_job}

-- ── a job ──

-- "targets count from a job's own start": its code is its span
unfoldable pub job_program_over : ℕ → List ℕ → Job → Program
job_program_over n bs j = program_of (span bs j) (day_label_over n bs) (day_inputs_over n bs)

-- from its own label and clearance, with its own steps; new records start at place C, and its places are the limit
unfoldable pub job_account_over : ℕ → List ℕ → Job → Account
job_account_over n bs j =
    start_account (day_label_over n bs j.label) (day_label_over n bs j.clearance) j.steps (day_header bs).records.count j.places

-- a job's run on the store as the job before left it
unfoldable pub job_run_over : ℕ → List ℕ → Job → Store → Outcome
job_run_over n bs j σ = runs (job_program_over n bs j) start_control (job_account_over n bs j) σ

-- "Input records keep their contents from job to job", but for handles that lead nowhere
unfoldable pub store_after_over : ℕ → List ℕ → Job → Store → Store
store_after_over n bs j σ = end_job (day_header bs).records.count (job_run_over n bs j σ).store

-- ── the day ──

-- What a job comes to: it is skipped, or run with its declared steps.
pub data Turn : Type 0 where
  skipped : Turn
  ran : ℕ → Outcome → Turn

-- the jobs' turns from a store on, each job with whether it is admitted
unfoldable pub turns_over : ℕ → List ℕ → List Job → List Bool → Store → List Turn
turns_over n bs [] ads σ = []
turns_over n bs (j ∷ js) [] σ = []
turns_over n bs (j ∷ js) (true ∷ ads) σ = ran j.steps (job_run_over n bs j σ) ∷ turns_over n bs js ads (store_after_over n bs j σ)
turns_over n bs (j ∷ js) (false ∷ ads) σ = skipped ∷ turns_over n bs js ads σ

unfoldable pub day_turns_over : ℕ → List ℕ → List Turn
day_turns_over n bs = turns_over n bs (jobs_of_day bs) (day_admitted bs) (start_store (input_slots (day_inputs_over n bs)))

-- ── over the principals that there are ──

abbrev pub job_program : List ℕ → Job → Program
job_program = job_program_over principals

abbrev pub job_account : List ℕ → Job → Account
job_account = job_account_over principals

abbrev pub job_run : List ℕ → Job → Store → Outcome
job_run = job_run_over principals

abbrev pub store_after : List ℕ → Job → Store → Store
store_after = store_after_over principals

abbrev pub turns : List ℕ → List Job → List Bool → Store → List Turn
turns = turns_over principals

abbrev pub day_turns : List ℕ → List Turn
day_turns = day_turns_over principals
