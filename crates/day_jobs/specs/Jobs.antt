-- The run of a job that the code holds with its day, and the store that it leaves for the next. No part of the definition.
use Rattle.model.specs.State.{Store, Outcome}
use Rattle.day_jobs.specs.Running.{job_run, store_after}
use Rattle.day_jobs.specs.declared.job.DayJob.{DayJob}

abbrev pub run_of : DayJob → Store → Outcome
run_of j σ = job_run j.day.file.now j.numbers σ

abbrev pub left_by : DayJob → Store → Store
left_by j σ = store_after j.day.file.now j.numbers σ
