-- A record that is shown is written behind those before it.
use Rattle.std.proofs.Common.{sym, subst₂, ◌∙◌, arith, List, ℕ, ◌+◌}
use Rattle.view.specs.Writing.{observes}
use Rattle.view_fields.proofs.Buffers.{room_for}
use Rattle.view.proofs.Places.{Written, all_counted, all_written, room_here, written_here, hidden_here}
use Rattle.view.proofs.write_records.Goals as goal
use Rattle.view.proofs.write_records.Goals.{in-Some, in_default}

pub write_record-requires : goal.write_record-requires
write_record-requires c =
    room_for c.loop-p.invariant.writing 132
    (room_here _ _ c.loop-p.invariant (omega arith) _ (sym c.shown.ensures ∙ c.in-Some.is))

pub loop-p-preserved : goal.loop-p-preserved
loop-p-preserved c =
    let i = c.loop-p.invariant in
    let a = c.args in
    let next = λ (o : List ℕ) (k : ℕ). Written (observes a.reader) a.store.now a.out.now o k (c.loop-p.p + 1) in
    elim c.match-shown.branch [
      | in-Some w ↦ subst₂ next (sym w.out-is) (sym w.n-is)
          (written_here _ _ i (omega arith) _ (sym c.shown.ensures ∙ w.in-Some.is) w.write_record.ensures)
      | in_default w ↦ subst₂ next (sym w.out-is) (sym w.n-is)
          (hidden_here _ _ i (omega arith) (sym c.shown.ensures ∙ w.in_default.is))
    ]

pub returns-clause-shown_count : goal.returns-clause-shown_count
returns-clause-shown_count c = all_counted _ _ c.loop-p.invariant (omega (arith, c.told-store))

pub returns-clause-written : goal.returns-clause-written
returns-clause-written c = all_written _ _ c.loop-p.invariant (omega (arith, c.told-store))
