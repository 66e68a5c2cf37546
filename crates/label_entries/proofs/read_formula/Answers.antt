-- `label_entries::read_formula` meets its contract. Assumes nothing.
use mathlib.Core.Path.{sym, ◌∙◌}
use native.Mathlib.Omega.{arith}
use Rattle.label_entries.proofs.Masks.{passed_none, not_above, has_subset, passed_more, all_canonical, all_table}
use Rattle.label_entries.proofs.Reading.{formula_long, formula_bad, formula_good}
use Rattle.label_entries.proofs.read_formula.Goals as goal

pub returns-then-masks-gt-MOST_CLAUSES : goal.returns-then-masks-gt-MOST_CLAUSES
returns-then-masks-gt-MOST_CLAUSES c = formula_long c.args.masks.now (omega arith)

pub loop-mask-init : goal.loop-mask-init
loop-mask-init c = passed_none _

pub returns-then-c-least : goal.returns-then-c-least
returns-then-c-least c =
    let l = c.loop-mask in
    formula_bad c.args.masks.now (not_above c.args.masks.now l.t l.least l.mask-index l.invariant (omega arith) (omega arith))

pub returns-then-not-contains : goal.returns-then-not-contains
returns-then-not-contains c =
    let l = c.loop-mask in
    formula_bad c.args.masks.now
    (has_subset c.args.masks.now l.t l.least l.mask-index l.invariant (omega arith) (omega arith)
    (sym c.contains.ensures ∙ c.if-not-contains.true))

pub loop-mask-preserved : goal.loop-mask-preserved
loop-mask-preserved c =
    let l = c.loop-mask in
    rw c.from-c.ensures
    (passed_more c.args.masks.now l.t l.least l.mask-index l.invariant (omega arith) (omega arith) (omega arith)
    (sym c.contains.ensures ∙ c.if-not-contains.false) _ c.clause_table.ensures _ c.both-t.ensures)

pub returns : goal.returns
returns c =
    let l = c.loop-mask in
    formula_good c.args.masks.now (omega arith) (all_canonical c.args.masks.now l.t l.least l.mask-index l.invariant (omega arith)) l.t
    (all_table c.args.masks.now l.t l.least l.mask-index l.invariant (omega arith))
