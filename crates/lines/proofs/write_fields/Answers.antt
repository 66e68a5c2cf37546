-- Each turn writes the next field, of as many bytes as there are.
use Rattle.std.proofs.Common.{◌≡◌, ap, arith, List, [], ◌∷◌, ℕ, ◌+◌, ◌*◌, ◌≤◌, ◌<◌, length, get_or, take, drop}
use Rattle.std.proofs.lemmas.List.{drop_all}
use Rattle.lines.specs.Lines.{hex, spaced}
use Rattle.view_fields.proofs.Buffers.{Writing, piece, ends, ends_at, room_for, room_next}
use Rattle.lines.proofs.Printing.{spaced_here, length_field}
use Rattle.lines.proofs.write_fields.Goals as goal

-- the next field, f, and the bytes b behind it
module _ {whole out₀ out : List ℕ} {at : ℕ} (ws rest : List ℕ) (j : ℕ) (w : Writing whole (spaced (drop j ws) rest) out₀ out at)
    (h : j < length ws)
    (enough : length whole ≤ length out₀) {f b : List ℕ} (d : f ≡ take (get_or ws j 0) rest) (e : b ≡ drop (get_or ws j 0) rest)
  where
    room : at + (1 + 2 * length f) ≤ length out₀
    room = room_next w enough (0x20 ∷ hex f) (spaced (drop (j + 1) ws) b) (spaced_here ws rest j h d e) (length_field f)

pub write_field-requires : goal.write_field-requires
write_field-requires c =
    let l = c.loop-width in
    let p = c.parted.ensures in
    room_for l.invariant (1 + 2 * length c.parted.result.0.now)
    (room c.args.widths.now l.rest.now l.width-index l.invariant c.loop-width-test.true c.requires p.first p.behind)

pub overflow_add-at-in-loop-width : goal.overflow_add-at-in-loop-width
overflow_add-at-in-loop-width c =
    let l = c.loop-width in
    let p = c.parted.ensures in
    omega (arith, room c.args.widths.now l.rest.now l.width-index l.invariant c.loop-width-test.true c.requires p.first p.behind)

pub loop-width-preserved : goal.loop-width-preserved
loop-width-preserved c =
    let l = c.loop-width in
    let p = c.parted.ensures in
    let f = c.parted.result.0.now in
    piece l.invariant (0x20 ∷ hex f) (spaced_here c.args.widths.now l.rest.now l.width-index c.loop-width-test.true p.first
    p.behind)
    (length_field f) (room c.args.widths.now l.rest.now l.width-index l.invariant c.loop-width-test.true c.requires p.first
    p.behind)
    c.write_field.ensures

-- nothing is left
none : (ws rest : List ℕ) (j : ℕ) → length ws ≤ j → spaced (drop j ws) rest ≡ []
unfolding spaced
none ws rest j h = ap (λ (vs : List ℕ). spaced vs rest) (drop_all j ws h)

pub returns-clause-count : goal.returns-clause-count
returns-clause-count c =
    ends_at c.loop-width.invariant (none c.args.widths.now c.loop-width.rest.now c.loop-width.width-index c.loop-width-test.false)

pub returns-clause-written : goal.returns-clause-written
returns-clause-written c =
    ends c.loop-width.invariant (none c.args.widths.now c.loop-width.rest.now c.loop-width.width-index c.loop-width-test.false)
