-- `file_sections::records_ok` meets its contract: what is left of the records decides. Assumes nothing.
use mathlib.Core.Path.{◌≡◌, sym, ap, ◌∙◌}
use Prim.Native.Nat.{ℕ, ◌+◌, ◌-◌, ◌*◌}
use native.Mathlib.Omega.{arith}
use Rattle.file_sections.specs.Checks.{records_ok}
use Rattle.file_sections.proofs.Records.{left, kind_stops, label_stops, next_record}
use Rattle.file_sections.proofs.records_ok.Goals as goal

pub returns-then-byte_at-gt1 : goal.returns-then-byte_at-gt1
returns-then-byte_at-gt1 c =
    let n = c.args.count in
    let i = c.loop-i.i in
    sym (c.loop-i.invariant ∙ left c.args.labels c.args.bytes.now n i (omega arith)
    ∙ kind_stops c.args.labels c.args.bytes.now (n - (i + 1)) (6 * i) (omega arith))

pub returns-then-labels-index_at : goal.returns-then-labels-index_at
returns-then-labels-index_at c =
    let n = c.args.count in
    let i = c.loop-i.i in
    sym (c.loop-i.invariant ∙ left c.args.labels c.args.bytes.now n i (omega arith)
    ∙ label_stops c.args.labels c.args.bytes.now (n - (i + 1)) (6 * i) (omega arith) (omega arith))

pub loop-i-preserved : goal.loop-i-preserved
loop-i-preserved c =
    let n = c.args.count in
    let i = c.loop-i.i in
    c.loop-i.invariant ∙ left c.args.labels c.args.bytes.now n i (omega arith)
    ∙ next_record c.args.labels c.args.bytes.now (n - (i + 1)) (6 * i) (omega arith) (omega arith)
    ∙ ap (records_ok c.args.labels c.args.bytes.now (n - (i + 1))) (let e : 6 * i + 6 ≡ 6 * (i + 1) = omega arith in e)

pub returns : goal.returns
unfolding records_ok
returns c =
    sym (c.loop-i.invariant
    ∙ ap (λ (k : ℕ). records_ok c.args.labels c.args.bytes.now k (6 * c.loop-i.i)) (let e : c.args.count - c.loop-i.i ≡ 0 = omega arith in e))
