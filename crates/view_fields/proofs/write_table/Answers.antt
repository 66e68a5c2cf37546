-- A table's bytes are those of its words, lowest first.
use Rattle.std.proofs.Common.{ap, ◌∙◌, List, ℕ, arith}
use Rattle.labels.proofs.Wide.{Fits}
use Rattle.view_fields.specs.Fields.{little_endian}
use Rattle.view_fields.specs.Writing.{over}
use Rattle.view_fields.proofs.Buffers.{four}
use Rattle.view_fields.proofs.Tables.{table_bytes}
use Rattle.view_fields.proofs.Widths.{length_number}
use Rattle.view_fields.proofs.write_table.Goals as goal

pub returns : goal.returns
returns c =
    let t = c.args.t in
    let fits : Fits t = record { fits0 = omega arith; fits1 = omega arith; fits2 = omega arith; fits3 = omega arith } in
    four (little_endian 8 t.word0) (little_endian 8 t.word1) (little_endian 8 t.word2) (little_endian 8 t.word3) c.args.out.now
    (length_number 8 t.word0) (length_number 8 t.word1) (length_number 8 t.word2) (length_number 8 t.word3) c.requires
    c.write_number.ensures c.write_number-2.ensures c.write_number-3.ensures c.write_number-4.ensures
    ∙ ap (λ (v : List ℕ). over v c.args.out.now) (table_bytes t fits)
