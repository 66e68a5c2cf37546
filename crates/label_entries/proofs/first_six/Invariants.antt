-- `t` is the word of the members below `p`. Assumes nothing.
use mathlib.Core.Path.{◌≡◌}
use mathlib.Core.List.{[], ◌∷◌}
use Prim.Native.Nat.{◌%◌, ◌^◌}
use Rattle.formulas.specs.Formula.{table}
use Rattle.label_entries.proofs.first_six.Given as goal

abbrev pub invariant-loop-p : goal.invariant-loop-p
invariant-loop-p l = l.t ≡ table 6 (l.mask % 2 ^ l.p ∷ [])
