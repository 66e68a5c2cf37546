-- A value's kind and 0 byte, and its two words.
use Rattle.std.proofs.Common.{refl, [], ◌∷◌}
use Rattle.labels.specs.Tables.{whole}
use Rattle.view_fields.specs.Fields.{little_endian}
use Rattle.view_fields.proofs.Buffers.{three}
use Rattle.view_fields.proofs.Widths.{length_number}
use Rattle.view_fields.proofs.write_value.Goals as goal

pub returns : goal.returns
returns c =
    let v = c.args.v in
    three (v.kind ∷ 0 ∷ []) (little_endian 32 (whole v.first)) (little_endian 32 (whole v.second)) c.args.out.now
    refl (length_number 32 (whole v.first)) (length_number 32 (whole v.second)) c.requires
    c.write_pair.ensures c.write_table.ensures c.write_table-2.ensures
