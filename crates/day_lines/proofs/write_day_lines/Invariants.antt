-- The lines of the jobs below the index are written.
use Rattle.view.specs.Writing.{observes}
use Rattle.day_lines.proofs.Jobs.{Served}
use Rattle.day_lines.proofs.write_day_lines.Given as goal

abbrev pub invariant-loop-job : goal.invariant-loop-job
invariant-loop-job l = Served (observes l.label) l.day.file.now l.fn.out l.out l.at l.job-index
