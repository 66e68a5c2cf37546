-- The result, the label and the clearance are shown, or are zeros likewise.
use Rattle.std.proofs.Common.{◌∙◌}
use Rattle.labels.specs.Tables.{principals}
use Rattle.view_fields.specs.Fields.{label_field}
use Rattle.view_fields.specs.Writing.{triple_field}
use Rattle.view_fields.proofs.Buffers.{three}
use Rattle.view_fields.proofs.Widths.{length_label, length_triple}
use Rattle.view.proofs.Closing.{final_written, final_blank}
use Rattle.view.proofs.write_final.Goals as goal

pub returns-then-flows : goal.returns-then-flows
returns-then-flows c =
    let a = c.args in
    let f = a.finish in
    let r = c.from.result in
    three (triple_field r) (label_field principals f.label) (label_field principals f.clearance) a.out.now
    (length_triple r) (length_label principals f.label) (length_label principals f.clearance) c.requires
    c.write_value.ensures c.write_label.ensures c.write_label-then-flows.ensures
    ∙ final_written a.reader f a.out.now c.flows.ensures c.if-flows.true r c.from.ensures

pub returns-else-flows : goal.returns-else-flows
returns-else-flows c =
    let a = c.args in
    c.write_zeros.ensures ∙ final_blank a.reader a.finish a.out.now c.flows.ensures c.if-flows.false
