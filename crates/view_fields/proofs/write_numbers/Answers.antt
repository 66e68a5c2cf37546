-- Three numbers, one behind another.
use Rattle.view_fields.specs.Fields.{little_endian}
use Rattle.view_fields.specs.Writing.{numbers}
use Rattle.view_fields.proofs.Buffers.{three}
use Rattle.view_fields.proofs.Widths.{length_number}
use Rattle.view_fields.proofs.write_numbers.Goals as goal

pub returns : goal.returns
unfolding numbers
returns c =
    let a = c.args in
    three (little_endian 2 a.a) (little_endian 2 a.b) (little_endian 2 a.c) a.out.now
    (length_number 2 a.a) (length_number 2 a.b) (length_number 2 a.c) c.requires
    c.write_number.ensures c.write_number-2.ensures c.write_number-3.ensures
