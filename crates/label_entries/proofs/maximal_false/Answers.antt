-- `label_entries::maximal_false` meets its contract. Assumes nothing.
use mathlib.Core.Path.{sym, ◌∙◌}
use native.Mathlib.Omega.{arith}
use Rattle.label_entries.proofs.MaximalFalse.{maximal_in, maximal_stops, passes_next, maximal_is}
use Rattle.label_entries.proofs.maximal_false.Goals as goal

pub returns-then-contains : goal.returns-then-contains
returns-then-contains c = sym (maximal_in _ _ (sym c.contains.ensures ∙ c.if-contains.true))

pub loop-p-init : goal.loop-p-init
loop-p-init c = tt

pub returns-then-not-passes_with : goal.returns-then-not-passes_with
returns-then-not-passes_with c =
    sym (maximal_stops _ _ c.loop-p.p (omega arith) (sym c.passes_with.ensures ∙ c.if-not-passes_with.true))

pub loop-p-preserved : goal.loop-p-preserved
loop-p-preserved c = passes_next _ _ c.loop-p.p c.loop-p.invariant (sym c.passes_with.ensures ∙ c.if-not-passes_with.false)

pub returns : goal.returns
returns c = sym (maximal_is _ _ c.loop-p.p (omega arith) c.loop-p.invariant (sym c.contains.ensures ∙ c.if-contains.false))
