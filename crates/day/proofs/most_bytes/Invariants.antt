-- What is left of the jobs makes the rest of the sum.
use Rattle.std.proofs.Common.{◌≡◌, ◌+◌, ◌*◌, ◌≤◌}
use Rattle.day.specs.Parts.{most_bytes}
use Rattle.day_jobs.proofs.Turns.{jobs_left}
use Rattle.day.proofs.most_bytes.Given as goal

abbrev pub invariant-loop-j : goal.invariant-loop-j
invariant-loop-j l = record {
  small : l.n ≤ 33998 * l.j;
  sum :
      l.n + most_bytes (jobs_left l.day.file.now l.day.header.jobs.offset l.day.header.jobs.count l.j)
      ≡ most_bytes (jobs_left l.day.file.now l.day.header.jobs.offset l.day.header.jobs.count 0);
}
