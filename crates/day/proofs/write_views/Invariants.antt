-- The jobs below k have had their turn.
use Rattle.view.specs.Writing.{observes}
use Rattle.day.proofs.Views.{Served}
use Rattle.day.proofs.write_views.Given as goal

abbrev pub invariant-loop-k : goal.invariant-loop-k
invariant-loop-k l = Served (observes l.reader) l.day.file.now l.fn.out l.out l.store l.callers l.at l.k
