-- Of the masks below `mask`, the first `n` that are listed are written. Assumes nothing.
use Rattle.labels.specs.Tables.{whole}
use Rattle.label_entries.proofs.Listing.{Writing}
use Rattle.label_entries.proofs.write_clauses.Given as goal

abbrev pub invariant-loop-mask : goal.invariant-loop-mask
invariant-loop-mask l = Writing (whole l.t) l.out l.n l.mask
