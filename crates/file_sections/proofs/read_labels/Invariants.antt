-- The labels read so far and what is left of the section make all its labels. Assumes nothing.
use mathlib.Core.Path.{◌≡◌}
use Prim.Native.Nat.{◌-◌, ◌≤◌}
use lib.ListN.{length, take, drop}
use Rattle.file_sections.specs.Sections.{read_labels}
use Rattle.file_sections.proofs.Labels.{labels_with}
use Rattle.file_sections.proofs.read_labels.Given as goal

abbrev pub invariant-loop-place : goal.invariant-loop-place
invariant-loop-place l = record {
  inside : l.at ≤ length l.bytes;
  rest : read_labels l.count l.bytes ≡ labels_with (take l.place-index l.place-items) (read_labels (l.count - l.place-index) (drop l.at l.bytes));
}
