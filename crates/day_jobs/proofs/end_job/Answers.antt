-- `day_jobs::end_job` meets its contract. The loop's invariant is `Ending`.
use Rattle.std.proofs.Common.{arith}
use Rattle.day_jobs.proofs.JobEnd.{none_yet, one_more, all_ended}
use Rattle.day_jobs.proofs.end_job.Goals as goal

pub loop-p-init : goal.loop-p-init
loop-p-init c = none_yet _ _

pub loop-p-preserved : goal.loop-p-preserved
loop-p-preserved c = one_more _ _ _ _ c.loop-p.invariant (omega arith) _ c.end_place.ensures

pub returns : goal.returns
returns c = all_ended _ _ _ _ c.loop-p.invariant (omega arith)
