-- `quote_lines::write_figures` meets its contract: a text, a number, a text, a number, the line's end.
use mathlib.Core.List.{List, [], ◌∷◌, ◌++◌}
use mathlib.Core.Path.{◌≡◌, refl}
use Prim.Native.Nat.{ℕ, ◌+◌, ◌≤◌}
use native.Mathlib.Omega.{arith}
use lib.ListN.{length, set}
use Rattle.lines.specs.Lines.{decimal}
use Rattle.quote.specs.declared.Figures.{Figures}
use Rattle.view_fields.specs.Writing.{over}
use Rattle.view_fields.proofs.Buffers.{Writing, part, back, first, next, piece, byte, ends, ends_at, room_for, room_next, room_for_next}
use Rattle.quote_lines.specs.Lines.{steps_text, places_text, figures_line}
use Rattle.quote_lines.proofs.Decimal.{line_short}
use Rattle.quote_lines.proofs.write_figures.Goals as goal
use Rattle.quote_lines.proofs.write_figures.Goals.{Start}

-- ── the line, piece by piece ──

module _ (f : Figures) (out : List ℕ) (fits : length (figures_line f) ≤ length out) (room : 35 ≤ length out) where
  -- what is left of it behind each piece
  abbrev from_places : List ℕ
  from_places = decimal f.places ++ (0x0A ∷ [])

  abbrev from_text : List ℕ
  from_text = places_text ++ from_places

  abbrev from_steps : List ℕ
  from_steps = decimal f.steps ++ from_text

  module _ (t1 : List ℕ) (e1 : t1 ≡ over steps_text out) where
    w1 : Writing (figures_line f) from_steps out t1 6
    unfolding figures_line
    w1 = first steps_text refl refl (omega arith) e1

    room1 : length (decimal f.steps) ≤ length (part 6 t1)
    room1 = room_for_next w1 fits (decimal f.steps) from_text refl

    module _ (n1 : ℕ) (d1 : List ℕ) (k1 : n1 ≡ length (decimal f.steps)) (o1 : d1 ≡ over (decimal f.steps) (part 6 t1)) where
      w2 : Writing (figures_line f) from_text out (back 6 t1 d1) (6 + n1)
      w2 = next w1 fits (decimal f.steps) refl k1 o1

      room_text : 6 + n1 + 8 ≤ length out
      room_text = room_next w2 fits places_text from_places refl refl

      room2 : 8 ≤ length (part (6 + n1) (back 6 t1 d1))
      room2 = room_for w2 8 room_text

      module _ (t2 : List ℕ) (e2 : t2 ≡ over places_text (part (6 + n1) (back 6 t1 d1))) where
        w3 : Writing (figures_line f) from_places out (back (6 + n1) (back 6 t1 d1) t2) (6 + n1 + 8)
        w3 = piece w2 places_text refl refl room_text e2

        room3 : length (decimal f.places) ≤ length (part (6 + n1 + 8) (back (6 + n1) (back 6 t1 d1) t2))
        room3 = room_for_next w3 fits (decimal f.places) (0x0A ∷ []) refl

        module _ (n2 : ℕ) (d2 : List ℕ) (k2 : n2 ≡ length (decimal f.places)) (o2 : d2 ≡ over (decimal f.places) (part (6 + n1 + 8) (back (6 + n1) (back 6 t1 d1) t2))) where
          w4 : Writing (figures_line f) (0x0A ∷ []) out (back (6 + n1 + 8) (back (6 + n1) (back 6 t1 d1) t2) d2) (6 + n1 + 8 + n2)
          w4 = next w3 fits (decimal f.places) refl k2 o2

          room4 : 6 + n1 + 8 + n2 + 1 ≤ length out
          room4 = room_next w4 fits (0x0A ∷ []) [] refl refl

          w5 : Writing (figures_line f) [] out (set (back (6 + n1 + 8) (back (6 + n1) (back 6 t1 d1) t2) d2) (6 + n1 + 8 + n2) 0x0A) (6 + n1 + 8 + n2 + 1)
          w5 = byte w4 refl (omega (arith, room4))

-- ── the goals ──

fits : (c : Start) → length (figures_line c.args.f) ≤ length c.args.out.now
fits c = omega (arith, line_short c.args.f (omega arith) (omega arith), c.requires)

pub write_decimal-middle-requires : goal.write_decimal-middle-requires
write_decimal-middle-requires c = room1 _ _ (fits (goal.at.write_decimal-middle-requires c).Start) c.requires _ c.write_bytes.ensures

pub overflow_add-middle : goal.overflow_add-middle
overflow_add-middle c =
    let d = c.write_decimal-middle.ensures in
    omega (arith, room_text _ _ (fits (goal.at.overflow_add-middle c).Start) c.requires _ c.write_bytes.ensures _ _ d.count d.written)

pub slice_bounds-write_bytes-count : goal.slice_bounds-write_bytes-count
slice_bounds-write_bytes-count c =
    let d = c.write_decimal-middle.ensures in
    omega (arith, (w2 _ _ (fits (goal.at.slice_bounds-write_bytes-count c).Start) c.requires _ c.write_bytes.ensures _ _ d.count d.written).room)

pub slice_bounds-write_bytes-start : goal.slice_bounds-write_bytes-start
slice_bounds-write_bytes-start c =
    let d = c.write_decimal-middle.ensures in
    omega (arith, (w2 _ _ (fits (goal.at.slice_bounds-write_bytes-start c).Start) c.requires _ c.write_bytes.ensures _ _ d.count d.written).room)

pub write_bytes-requires-2 : goal.write_bytes-requires-2
write_bytes-requires-2 c =
    let d = c.write_decimal-middle.ensures in
    room2 _ _ (fits (goal.at.write_bytes-requires-2 c).Start) c.requires _ c.write_bytes.ensures _ _ d.count d.written

pub overflow_add-last : goal.overflow_add-last
overflow_add-last c =
    let d = c.write_decimal-middle.ensures in
    omega (arith, room_text _ _ (fits (goal.at.overflow_add-last c).Start) c.requires _ c.write_bytes.ensures _ _ d.count d.written)

pub slice_bounds-write_decimal-count-2 : goal.slice_bounds-write_decimal-count-2
slice_bounds-write_decimal-count-2 c =
    let d = c.write_decimal-middle.ensures in
    omega (arith, (w3 _ _ (fits (goal.at.slice_bounds-write_decimal-count-2 c).Start) c.requires _ c.write_bytes.ensures _ _ d.count d.written _ c.write_bytes-2.ensures).room)

pub slice_bounds-write_decimal-start-2 : goal.slice_bounds-write_decimal-start-2
slice_bounds-write_decimal-start-2 c =
    let d = c.write_decimal-middle.ensures in
    omega (arith, (w3 _ _ (fits (goal.at.slice_bounds-write_decimal-start-2 c).Start) c.requires _ c.write_bytes.ensures _ _ d.count d.written _ c.write_bytes-2.ensures).room)

pub write_decimal-requires : goal.write_decimal-requires
write_decimal-requires c =
    let d = c.write_decimal-middle.ensures in
    room3 _ _ (fits (goal.at.write_decimal-requires c).Start) c.requires _ c.write_bytes.ensures _ _ d.count d.written _ c.write_bytes-2.ensures

pub overflow_add-end : goal.overflow_add-end
overflow_add-end c =
    let d = c.write_decimal-middle.ensures in
    let e = c.write_decimal.ensures in
    omega (arith, room4 _ _ (fits (goal.at.overflow_add-end c).Start) c.requires _ c.write_bytes.ensures _ _ d.count d.written _ c.write_bytes-2.ensures _ _ e.count e.written)

pub bounds-out-end : goal.bounds-out-end
bounds-out-end c =
    let d = c.write_decimal-middle.ensures in
    let e = c.write_decimal.ensures in
    let at = (goal.at.bounds-out-end c).Start in
    omega (
      arith,
      room4 _ _ (fits at) c.requires _ c.write_bytes.ensures _ _ d.count d.written _ c.write_bytes-2.ensures _ _ e.count e.written,
      (w4 _ _ (fits at) c.requires _ c.write_bytes.ensures _ _ d.count d.written _ c.write_bytes-2.ensures _ _ e.count e.written).same,
    )

pub overflow_add-result : goal.overflow_add-result
overflow_add-result c =
    let d = c.write_decimal-middle.ensures in
    let e = c.write_decimal.ensures in
    omega (arith, room4 _ _ (fits (goal.at.overflow_add-result c).Start) c.requires _ c.write_bytes.ensures _ _ d.count d.written _ c.write_bytes-2.ensures _ _ e.count e.written)

pub returns-clause-count : goal.returns-clause-count
returns-clause-count c =
    let d = c.write_decimal-middle.ensures in
    let e = c.write_decimal.ensures in
    ends_at (w5 _ _ (fits (goal.at.returns-clause-count c).Start) c.requires _ c.write_bytes.ensures _ _ d.count d.written _ c.write_bytes-2.ensures _ _ e.count e.written) refl

pub returns-clause-written : goal.returns-clause-written
returns-clause-written c =
    let d = c.write_decimal-middle.ensures in
    let e = c.write_decimal.ensures in
    ends (w5 _ _ (fits (goal.at.returns-clause-written c).Start) c.requires _ c.write_bytes.ensures _ _ d.count d.written _ c.write_bytes-2.ensures _ _ e.count e.written) refl
