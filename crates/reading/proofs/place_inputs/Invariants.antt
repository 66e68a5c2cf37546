-- What the loop keeps is `Placing`.
use Rattle.std.proofs.Common.{◌≡◌}
use Rattle.model.specs.FileLabels.{label_in}
use Rattle.reading.proofs.Placing.{Placing}
use Rattle.reading.proofs.place_inputs.Given as goal

abbrev pub invariant-loop-i : goal.invariant-loop-i
invariant-loop-i l =
    (l.i-iterator.iter.size ≡ 6) × Placing (label_in l.labels) l.records l.store l.i-iterator.iter.rest.now l.i-iterator.count
