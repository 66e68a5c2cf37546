-- A label's tables, one behind the other.
use Rattle.labels.specs.Tables.{whole}
use Rattle.view_fields.specs.Fields.{little_endian, label_field}
use Rattle.view_fields.proofs.Buffers.{two}
use Rattle.view_fields.proofs.Widths.{length_number}
use Rattle.view_fields.proofs.write_label.Goals as goal

pub returns : goal.returns
unfolding label_field
returns c =
    let l = c.args.l in
    two (little_endian 32 (whole l.secrecy)) (little_endian 32 (whole l.integrity)) c.args.out.now
    (length_number 32 (whole l.secrecy)) (length_number 32 (whole l.integrity)) c.requires
    c.write_table.ensures c.write_table-2.ensures
