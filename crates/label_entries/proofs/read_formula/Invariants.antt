-- The masks so far are `Passed`. Assumes nothing.
use Rattle.label_entries.proofs.Masks.{Passed}
use Rattle.label_entries.proofs.read_formula.Given as goal

abbrev pub invariant-loop-mask : goal.invariant-loop-mask
invariant-loop-mask l = Passed l.masks l.t l.least l.mask-index
