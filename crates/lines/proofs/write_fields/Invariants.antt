-- The fields of the widths so far are written; those of the other widths are left, of the bytes that are left.
use Rattle.std.proofs.Common.{drop}
use Rattle.lines.specs.Lines.{spaced}
use Rattle.view_fields.proofs.Buffers.{Writing}
use Rattle.lines.proofs.write_fields.Given as goal

abbrev pub invariant-loop-width : goal.invariant-loop-width
invariant-loop-width l = Writing (spaced l.widths l.bytes) (spaced (drop l.width-index l.widths) l.rest) l.initial.out l.out l.at
