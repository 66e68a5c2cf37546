-- `label_entries::count_clauses` meets its contract. Assumes nothing.
use mathlib.Core.Path.{sym, ◌∙◌}
use native.Mathlib.Omega.{arith}
use Rattle.labels.specs.Tables.{whole}
use Rattle.label_entries.proofs.Listing.{count_start, count_on, count_one, count_end}
use Rattle.label_entries.proofs.count_clauses.Goals.{then-maximal_false, else-maximal_false}
use Rattle.label_entries.proofs.count_clauses.Goals as goal

pub loop-c-init : goal.loop-c-init
loop-c-init c = count_start (whole c.args.t)

pub overflow_add-n : goal.overflow_add-n
overflow_add-n c = omega (arith, c.loop-c.invariant.passed)

pub loop-c-preserved : goal.loop-c-preserved
loop-c-preserved c =
    let l = c.loop-c in
    elim c.if-maximal_false.branch [
      | then-maximal_false w ↦
          rw w.n-is (count_one (whole c.args.t) l.n l.c l.invariant (omega arith) (sym c.maximal_false.ensures ∙ w.if-maximal_false.true))
      | else-maximal_false w ↦
          rw w.n-is (count_on (whole c.args.t) l.n l.c l.invariant (omega arith) (sym c.maximal_false.ensures ∙ w.if-maximal_false.false))
    ]

pub returns : goal.returns
returns c = count_end _ _ _ c.loop-c.invariant (omega arith)
