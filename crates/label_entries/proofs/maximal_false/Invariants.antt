-- The principals below `p` pass. Assumes nothing.
use lib.Dec.{T}
use Rattle.labels.specs.Tables.{whole}
use Rattle.formulas.specs.Normal.{all_below, passes_with}
use Rattle.label_entries.proofs.maximal_false.Given as goal

abbrev pub invariant-loop-p : goal.invariant-loop-p
invariant-loop-p l = T (all_below l.p (passes_with (whole l.t) l.x))
