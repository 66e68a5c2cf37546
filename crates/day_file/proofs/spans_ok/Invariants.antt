-- `day_file::spans_ok`: the jobs from the i-th on decide.
use Rattle.day_file.specs.Checks.{span_ok}
use Rattle.day_file.proofs.Turns.{Left}
use Rattle.day_file.proofs.spans_ok.Given as goal

abbrev pub invariant-loop-i : goal.invariant-loop-i
invariant-loop-i l = Left (span_ok l.file) l.file l.h.jobs.count l.h.jobs.offset l.i
