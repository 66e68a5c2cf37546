-- The turns of the jobs below k are kept.
use Rattle.day_turns.proofs.Keeping.{Keeping}
use Rattle.day_turns.proofs.run_day.Given as goal

abbrev pub invariant-loop-k : goal.invariant-loop-k
invariant-loop-k l = Keeping l.day.file.now l.kept l.store l.callers l.k
