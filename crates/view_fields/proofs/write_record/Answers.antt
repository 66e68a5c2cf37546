-- A record is written as its place and kind, its label and its value, one behind another.
use Rattle.std.proofs.Common.{refl, ap₂, ◌∙◌, List, [], ◌∷◌, ◌++◌, ℕ}
use Rattle.labels.specs.Tables.{principals}
use Rattle.view_fields.specs.Fields.{label_field, record_field}
use Rattle.view_fields.specs.Writing.{over, triple_field}
use Rattle.view_fields.proofs.Buffers.{three}
use Rattle.view_fields.proofs.Widths.{length_label, length_triple}
use Rattle.view_fields.proofs.write_record.Goals as goal

pub returns : goal.returns
unfolding record_field
returns c =
    let a = c.args in
    let l = label_field principals a.r.label in
    let t = c.from.result in
    three (a.p ∷ c.kind_byte.result ∷ []) l (triple_field t) a.out.now
    refl (length_label principals a.r.label) (length_triple t) c.requires
    c.write_pair.ensures c.write_label.ensures c.write_value.ensures
    ∙ ap₂ (λ (k : ℕ) (v : List ℕ). over (a.p ∷ k ∷ (l ++ v)) a.out.now) c.kind_byte.ensures c.from.ensures
