-- `day_jobs::run_job` meets its contract.
use Rattle.day_jobs.proofs.Jobs.{run_is}
use Rattle.day_jobs.proofs.run_job.Goals as goal

pub returns : goal.returns
returns c =
    rw (run_is c.args.job.day.loads c.records_of.ensures.are c.args.job.numbers _ _ _ c.label_at-label.ensures c.label_at-clearance.ensures)
    at c.execute.ensures
