-- `day_jobs::job_of` meets its contract.
use Rattle.std.proofs.Common.{sym, subst, arith}
use Rattle.day_file.specs.declared.Job.{Job}
use Rattle.day_jobs.specs.Parts.{Runnable}
use Rattle.day_jobs.proofs.Jobs.{few, starts_below, job_runs}
use Rattle.day_jobs.proofs.job_of.Goals as goal

pub overflow_mul-k : goal.overflow_mul-k
overflow_mul-k c = omega (arith, starts_below c.args.day.loads _ c.requires)

pub overflow_add-day : goal.overflow_add-day
overflow_add-day c = omega (arith, starts_below c.args.day.loads _ c.requires)

pub job_at-numbers-requires : goal.job_at-numbers-requires
job_at-numbers-requires c = omega (arith, starts_below c.args.day.loads _ c.requires)

pub invariant_of-result : goal.invariant_of-result
invariant_of-result c =
    let d = c.args.day in
    record { runs = subst (λ (j : Job). Runnable d.header j d.file.now) (sym c.job_at-numbers.ensures.0) (job_runs d.loads _ c.requires) }

pub returns-clause-few : goal.returns-clause-few
returns-clause-few c = omega (arith, few c.args.day.loads)
