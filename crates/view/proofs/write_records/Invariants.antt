-- The records shown before place p are written.
use Rattle.view.specs.Writing.{observes}
use Rattle.view.proofs.Places.{Written}
use Rattle.view.proofs.write_records.Given as goal

abbrev pub invariant-loop-p : goal.invariant-loop-p
invariant-loop-p l = Written (observes l.reader) l.store l.initial.out l.out l.n l.p
