-- `label_entries::write_clauses` meets its contract. Assumes nothing.
use mathlib.Core.Path.{refl, sym, ◌∙◌}
use native.Mathlib.Omega.{arith}
use Rattle.labels.specs.Tables.{whole}
use Rattle.label_entries.proofs.Listing.{write_start, has_room, write_on, write_one, write_end}
use Rattle.label_entries.proofs.write_clauses.Goals.{then-maximal_false, else-maximal_false}
use Rattle.label_entries.proofs.write_clauses.Goals as goal

pub loop-mask-init : goal.loop-mask-init
loop-mask-init c = write_start _ _ c.requires

pub bounds-out-n : goal.bounds-out-n
bounds-out-n c =
    let l = c.loop-mask in
    has_room (whole c.args.t) l.out l.n l.mask l.invariant (omega arith) (sym c.maximal_false.ensures ∙ c.if-maximal_false.true)

pub loop-mask-preserved : goal.loop-mask-preserved
loop-mask-preserved c =
    let l = c.loop-mask in
    elim c.if-maximal_false.branch [
      | then-maximal_false w ↦
          rw (w.out-is, w.n-is)
          (write_one (whole c.args.t) l.out l.n l.mask l.invariant (omega arith) _ refl (sym c.maximal_false.ensures ∙ w.if-maximal_false.true))
      | else-maximal_false w ↦
          rw (w.out-is, w.n-is)
          (write_on (whole c.args.t) l.out l.n l.mask l.invariant (omega arith) (sym c.maximal_false.ensures ∙ w.if-maximal_false.false))
    ]

pub returns : goal.returns
returns c = write_end _ _ _ _ c.loop-mask.invariant (omega arith)
