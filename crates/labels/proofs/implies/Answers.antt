-- `labels::implies` meets its contract. Assumes nothing.
use native.Mathlib.Omega.{arith}
use Rattle.labels.proofs.Gaps.{no_gaps}
use Rattle.labels.proofs.implies.Goals as goal

pub returns : goal.returns
returns c =
    let a = c.args.a in
    let b = c.args.b in
    no_gaps a b
    (record { fits0 = omega arith; fits1 = omega arith; fits2 = omega arith; fits3 = omega arith })
    (record { fits0 = omega arith; fits1 = omega arith; fits2 = omega arith; fits3 = omega arith })
    _ _ _ _ c.beyond.ensures c.beyond-2.ensures c.beyond-3.ensures c.beyond-4.ensures
