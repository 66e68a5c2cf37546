-- `file_sections::read_labels` meets its contract. Assumes nothing.
use mathlib.Core.Path.{◌≡◌, sym, ap, ap₂, ◌∙◌}
use mathlib.Core.List.{List}
use Prim.Native.Nat.{ℕ, ◌-◌}
use Rattle.labels.specs.declared.Label.{Label}
use native.Mathlib.Omega.{arith}
use lib.ListN.{drop}
use lib.Seq.{take_all}
use Rattle.file_sections.specs.Labels.{labels_found}
use Rattle.file_sections.specs.Sections.{read_labels}
use Rattle.file_sections.proofs.Labels.{labels_with, malformed, within, more, places, filled, ended}
use Rattle.file_sections.proofs.read_labels.Goals as goal

pub returns-in_err-label : goal.returns-in_err-label
returns-in_err-label c =
    let l = c.loop-place in
    let room = places c.args.count _ c.no_labels-labels.ensures c.requires in
    c.from_residual.ensures
    ∙ sym (ap labels_found (l.invariant.rest
    ∙ malformed c.args.count l.place-index l.at _ c.args.bytes.now _ c.read_entry.ensures l.invariant.inside (omega (arith, room)) c.in_err-label.was))

pub overflow_add-at : goal.overflow_add-at
overflow_add-at c =
    let l = c.loop-place in
    omega (arith, within c.args.count l.place-index l.at l.place-items c.args.bytes.now _ c.read_entry.ensures l.invariant.inside _ _ c.in_ok-label.was, c.well_formed)

pub loop-place-preserved : goal.loop-place-preserved
loop-place-preserved c =
    let l = c.loop-place in
    let room = places c.args.count _ c.no_labels-labels.ensures c.requires in
    record {
      inside = within c.args.count l.place-index l.at l.place-items c.args.bytes.now _ c.read_entry.ensures l.invariant.inside _ _ c.in_ok-label.was;
      rest =
          l.invariant.rest
          ∙ more c.args.count l.place-index l.at l.place-items c.args.bytes.now _ c.read_entry.ensures l.invariant.inside _ _ c.in_ok-label.was
          (omega (arith, room)) (omega (arith, room));
    }

pub returns : goal.returns
returns c =
    let l = c.loop-place in
    let room = places c.args.count _ c.no_labels-labels.ensures c.requires in
    c.then_some.ensures
    ∙ ended c.args.bytes.now l.at l.invariant.inside l.place-items _
    (filled c.args.count _ c.no_labels-labels.ensures c.requires l.place-items l.auto.place-items) _
    (l.invariant.rest
    ∙ ap₂ (λ (xs : List Label) (k : ℕ). labels_with xs (read_labels k (drop l.at c.args.bytes.now)))
    (take_all l.place-index l.place-items (omega (arith, room))) (let e : c.args.count - l.place-index ≡ 0 = omega (arith, room) in e))
