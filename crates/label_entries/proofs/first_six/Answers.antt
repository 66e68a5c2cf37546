-- `label_entries::first_six` meets its contract. Assumes nothing.
use mathlib.Core.Path.{sym, ap, ◌∙◌}
use Prim.Native.Nat.{ℕ}
use Rattle.formulas.specs.Bits.{bit}
use native.Mathlib.Omega.{arith}
use Rattle.label_entries.proofs.Words.{clause_with, clause_without, single_table, no_member, clause_whole}
use Rattle.label_entries.proofs.first_six.Goals.{then-has, else-has}
use Rattle.label_entries.proofs.first_six.Goals as goal

pub loop-p-init : goal.loop-p-init
loop-p-init c = no_member c.args.mask

pub loop-p-preserved : goal.loop-p-preserved
loop-p-preserved c =
    let m = c.args.mask in
    let p = c.loop-p.p in
    let is = c.has.ensures ∙ ap (λ (x : ℕ). bit x p) c.from.ensures in
    elim c.if-has.branch [
      | then-has w ↦ w.t-is ∙ clause_with 6 m p _ c.loop-p.invariant _ (single_table p (omega arith)) (sym is ∙ w.if-has.true)
      | else-has w ↦ w.t-is ∙ clause_without 6 m p _ c.loop-p.invariant (sym is ∙ w.if-has.false)
    ]

pub returns : goal.returns
returns c = c.loop-p.invariant ∙ clause_whole _ _ (omega arith)
