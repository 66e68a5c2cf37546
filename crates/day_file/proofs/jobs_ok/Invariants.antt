-- `day_file::jobs_ok`: the jobs from the i-th on decide.
use Rattle.model.specs.FileLabels.{label_in}
use Rattle.day_file.specs.Checks.{job_ok}
use Rattle.day_file.proofs.Turns.{Left}
use Rattle.day_file.proofs.jobs_ok.Given as goal

abbrev pub invariant-loop-i : goal.invariant-loop-i
invariant-loop-i l = Left (job_ok l.h (label_in l.labels)) l.file l.h.jobs.count l.h.jobs.offset l.i
