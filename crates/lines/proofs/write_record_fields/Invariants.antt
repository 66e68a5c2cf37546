-- The fields of as many records as were counted are written; those of the others are left, of the bytes that are left.
use Rattle.std.proofs.Common.{◌-◌}
use Rattle.lines.specs.Lines.{spaced, widths}
use Rattle.view_fields.proofs.Buffers.{Writing}
use Rattle.lines.proofs.write_record_fields.Given as goal

abbrev pub invariant-loop : goal.invariant-loop
invariant-loop l =
    Writing (spaced (widths l.count) l.bytes) (spaced (widths (l.count - l.counter)) l.rest) l.initial.out l.out l.at
