-- Of the masks below `c`, `n` are listed. Assumes nothing.
use Rattle.labels.specs.Tables.{whole}
use Rattle.label_entries.proofs.Listing.{Counting}
use Rattle.label_entries.proofs.count_clauses.Given as goal

abbrev pub invariant-loop-c : goal.invariant-loop-c
invariant-loop-c l = Counting (whole l.t) l.n l.c
