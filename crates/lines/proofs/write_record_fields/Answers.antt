-- Each turn writes the fields of the next record.
use Rattle.std.proofs.Common.{◌≡◌, refl, sym, ap, ◌∙◌, arith, List, [], ◌++◌, ℕ, ◌+◌, ◌-◌, ◌<◌, ◌≤◌, drop}
use Rattle.lines.specs.Lines.{record_field_widths, widths, spaced}
use Rattle.view_fields.proofs.Buffers.{next, ends, ends_at, room_for_next, room_next}
use Rattle.lines.proofs.Printing.{record_here}
use Rattle.lines.proofs.write_record_fields.Goals as goal

-- the next record's fields, and those of the records in the bytes b behind it
here : (rest : List ℕ) (count i : ℕ) {b : List ℕ} → i < count → b ≡ drop 132 rest
    → spaced (widths (count - i)) rest ≡ spaced record_field_widths rest ++ spaced (widths (count - (i + 1))) b
here rest count i h e =
    record_here rest (count - i) (count - (i + 1)) (omega arith)
    ∙ ap (λ (v : List ℕ). spaced record_field_widths rest ++ spaced (widths (count - (i + 1))) v) (sym e)

pub write_fields-at-requires : goal.write_fields-at-requires
unfolding record_field_widths
write_fields-at-requires c =
    room_for_next c.loop.invariant c.requires (spaced record_field_widths c.loop.rest.now) _
    (record_here c.loop.rest.now (c.args.count - c.loop.counter) (c.args.count - (c.loop.counter + 1)) (omega arith))

pub overflow_add-at : goal.overflow_add-at
unfolding record_field_widths
overflow_add-at c =
    let next = record_here c.loop.rest.now (c.args.count - c.loop.counter) (c.args.count - (c.loop.counter + 1)) (omega arith) in
    let room = room_next c.loop.invariant c.requires (spaced record_field_widths c.loop.rest.now) _ next refl in
    omega (arith, room, c.write_fields-at.ensures.count)

pub loop-preserved : goal.loop-preserved
unfolding record_field_widths
loop-preserved c =
    let f = c.write_fields-at.ensures in
    next c.loop.invariant c.requires (spaced record_field_widths c.loop.rest.now)
    (here c.loop.rest.now c.args.count c.loop.counter (omega arith) c.parted.ensures.behind) f.count f.written

-- nothing is left
none : (count i : ℕ) (rest : List ℕ) → count ≤ i → spaced (widths (count - i)) rest ≡ []
unfolding widths spaced
none count i rest h = ap (λ (k : ℕ). spaced (widths k) rest) (let e : count - i ≡ 0 = omega arith in e)

pub returns-clause-count : goal.returns-clause-count
returns-clause-count c = ends_at c.loop.invariant (none c.args.count c.loop.counter c.loop.rest.now (omega arith))

pub returns-clause-written : goal.returns-clause-written
returns-clause-written c = ends c.loop.invariant (none c.args.count c.loop.counter c.loop.rest.now (omega arith))
