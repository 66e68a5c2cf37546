-- What the functions that read a day share with each other. No part of the definition.
use Rattle.std.specs.Prelude.{Bool, cond, List, [], ◌∷◌, ◌++◌, ◌≡◌, ℕ, ◌+◌, ◌*◌, ◌≤◌, leb, length, take, drop}
use Rattle.labels.specs.Tables.{principals}
use Rattle.labels.specs.declared.Label.{Label}
use Rattle.model.specs.State.{Store}
use Rattle.view_fields.specs.Fields.{record_width}
use Rattle.view_fields.specs.Writing.{over}
use Rattle.view.specs.Layout.{records_at, view}
use Rattle.view.specs.Writing.{observes}
use Rattle.day_file.specs.declared.Job.{Job}
use Rattle.day_jobs.specs.Running.{job_run, day_turns}
use Rattle.day_jobs.specs.declared.job.DayJob.{DayJob}
use Rattle.day.specs.Views.{turn_views}

-- the buffer once v is written from `at` on, if it fits there; else as it was
unfoldable pub shown_at : ℕ → List ℕ → List ℕ → List ℕ
shown_at at v b = cond (leb (at + length v) (length b)) (take at b ++ over v (drop at b)) b

-- v is written over the buffer's start, if there is room for it
abbrev pub WrittenIfRoom : List ℕ → List ℕ → List ℕ → Type 0
WrittenIfRoom v b b' = length v ≤ length b → b' ≡ over v b

-- the view of a job that is run on a store
abbrev pub job_view : (Label → Bool) → List ℕ → Job → Store → List ℕ
job_view Reads bs j σ = view Reads j.steps (job_run bs j σ)

-- the same of a job that the code holds, for a reading label
abbrev pub view_of_job : Label → DayJob → Store → List ℕ
view_of_job reader j σ = job_view (observes reader) j.day.file.now j.numbers σ

-- the views of a day's jobs for a reading label
abbrev pub views_for : Label → List ℕ → List ℕ
views_for reader bs = turn_views (observes reader) (day_turns bs)

-- the most bytes that the views of some jobs can have: a record at each of their places
unfoldable pub most_bytes : List Job → ℕ
most_bytes [] = 0
most_bytes (j ∷ js) = records_at + record_width principals * j.places + most_bytes js
