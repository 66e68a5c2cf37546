-- `day::write_skipped` meets its contract: its parts, one behind the other.
use Rattle.std.proofs.Common.{refl, ◌∙◌, replicate, arith}
use Rattle.view_fields.specs.Writing.{numbers}
use Rattle.view_fields.proofs.Buffers.{three}
use Rattle.view_fields.proofs.Widths.{length_numbers}
use Rattle.day.proofs.Views.{skipped_parts}
use Rattle.day.proofs.write_skipped.Goals as goal

pub returns : goal.returns
returns c =
    three (numbers 4 0 0) (numbers 0 206 206) (replicate 194 0) _ (length_numbers 4 0 0) (length_numbers 0 206 206) refl (omega (arith, c.requires))
    c.write_numbers.ensures c.write_numbers-2.ensures c.write_zeros.ensures
    ∙ skipped_parts _
