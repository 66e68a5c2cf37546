-- A space is written, and the field behind it.
use Rattle.std.proofs.Common.{refl, sym, arith, ◌∷◌}
use Rattle.std.proofs.lemmas.List.{append-nil}
use Rattle.lines.specs.Lines.{hex}
use Rattle.view_fields.proofs.Buffers.{start, byte, piece, ends}
use Rattle.lines.proofs.Printing.{length_hex}
use Rattle.lines.proofs.write_field.Goals as goal

pub returns : goal.returns
returns c =
    let digits = hex c.args.field.now in
    let space = byte (start {whole = 0x20 ∷ digits} refl) refl (omega (arith, c.requires)) in
    ends (piece space digits (sym (append-nil digits)) (length_hex c.args.field.now) c.requires c.write_hex.ensures) refl
