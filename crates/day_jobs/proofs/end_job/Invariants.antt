-- The job has ended at the places below p.
use Rattle.day_jobs.proofs.JobEnd.{Ending}
use Rattle.day_jobs.proofs.end_job.Given as goal

abbrev pub invariant-loop-p : goal.invariant-loop-p
invariant-loop-p l = Ending l.count l.fn.store l.store l.p
