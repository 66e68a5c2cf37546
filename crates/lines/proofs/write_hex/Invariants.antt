-- The digits of i bytes are written.
use Rattle.std.proofs.Common.{◌*◌, drop}
use Rattle.lines.specs.Lines.{hex}
use Rattle.view_fields.proofs.Buffers.{Writing}
use Rattle.lines.proofs.write_hex.Given as goal

abbrev pub invariant-loop-i : goal.invariant-loop-i
invariant-loop-i l = Writing (hex l.bytes) (hex (drop l.i l.bytes)) l.initial.out l.out (2 * l.i)
