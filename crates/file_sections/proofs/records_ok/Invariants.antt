-- What is left of the records decides. Assumes nothing.
use mathlib.Core.Path.{◌≡◌}
use Prim.Native.Nat.{◌-◌, ◌*◌}
use Rattle.file_sections.specs.Checks.{records_ok}
use Rattle.file_sections.proofs.records_ok.Given as goal

abbrev pub invariant-loop-i : goal.invariant-loop-i
invariant-loop-i l = records_ok l.labels l.bytes l.count 0 ≡ records_ok l.labels l.bytes (l.count - l.i) (6 * l.i)
