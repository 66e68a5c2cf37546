-- The first field is written, the other fields, the records', and the line's end.
use Rattle.std.proofs.Common.{◌≡◌, refl, sym, ap, ap₂, ◌∙◌, arith, List, [], ◌∷◌, ◌++◌, ℕ, ◌+◌, ◌*◌, ◌≤◌, length, take, drop, set}
use Rattle.std.proofs.lemmas.List.{length-append}
use Rattle.model.specs.Decoding.{u16}
use Rattle.lines.specs.Lines.{hex, line, spaced, widths}
use Rattle.view_fields.specs.Writing.{over}
use Rattle.view_fields.proofs.Buffers.{Writing, part, back, first, next, byte, ends, ends_at, room_next, room_for_next}
use Rattle.lines.proofs.Printing.{behind_first, length_hex, line_parts}
use Rattle.lines.proofs.write_line.Goals as goal

-- the fields of the records of a view
abbrev records : List ℕ → List ℕ
records v = spaced (widths (u16 v 6)) (drop 206 v)

module _ (v out : List ℕ) (room : length (line v) ≤ length out) where
  -- the bytes of the view's first field, f, and those behind them, b
  module _ {f b : List ℕ} (d : f ≡ take 2 v) (e : b ≡ drop 2 v) where
    whole : line v ≡ hex f ++ (spaced behind_first b ++ (records v ++ (0x0A ∷ [])))
    whole =
        line_parts v
        ∙ ap₂ (λ (x y : List ℕ). hex x ++ (spaced behind_first y ++ (records v ++ (0x0A ∷ [])))) (sym d) (sym e)

    first_room : 2 * length f ≤ length out
    first_room = let l = ap length whole ∙ length-append (hex f) _ in omega (arith, length_hex f)

    module _ {h : List ℕ} (q : h ≡ over (hex f) out) where
      w1 : Writing (line v) (spaced behind_first b ++ (records v ++ (0x0A ∷ []))) out h (2 * length f)
      w1 = first (hex f) whole (length_hex f) first_room q

      module _ {fs : List ℕ} {n : ℕ} (p : n ≡ length (spaced behind_first b))
          (r : fs ≡ over (spaced behind_first b) (part (2 * length f) h)) where
        w2 : Writing (line v) (records v ++ (0x0A ∷ [])) out (back (2 * length f) h fs) (2 * length f + n)
        w2 = next w1 room (spaced behind_first b) refl p r

  -- the records' fields, of n records in the bytes rs, and the line's end
  module _ {b₀ : List ℕ} {at : ℕ} (w : Writing (line v) (records v ++ (0x0A ∷ [])) out b₀ at) {n : ℕ} {rs : List ℕ}
      (p : n ≡ u16 v 6) (q : rs ≡ drop 206 v) where
    same : records v ++ (0x0A ∷ []) ≡ spaced (widths n) rs ++ (0x0A ∷ [])
    same = ap₂ (λ (k : ℕ) (x : List ℕ). spaced (widths k) x ++ (0x0A ∷ [])) (sym p) (sym q)

    records_room : length (spaced (widths n) rs) ≤ length (part at b₀)
    records_room = room_for_next w room (spaced (widths n) rs) (0x0A ∷ []) same

    module _ {fs : List ℕ} {m : ℕ} (k : m ≡ length (spaced (widths n) rs)) (r : fs ≡ over (spaced (widths n) rs) (part at b₀))
      where
        w3 : Writing (line v) (0x0A ∷ []) out (back at b₀ fs) (at + m)
        w3 = next w room (spaced (widths n) rs) same k r

        end_room : at + m + 1 ≤ length out
        end_room = room_next w3 room (0x0A ∷ []) [] refl refl

        w4 : Writing (line v) [] out (set (back at b₀ fs) (at + m) 0x0A) (at + m + 1)
        w4 = byte w3 refl (omega (arith, end_room))

pub write_hex-requires : goal.write_hex-requires
write_hex-requires c =
    let p = c.parted.ensures in
    first_room c.args.view.now c.args.out.now c.requires p.first p.behind

pub slice_bounds-write_fields-count-2 : goal.slice_bounds-write_fields-count-2
slice_bounds-write_fields-count-2 c =
    let p = c.parted.ensures in
    let w = w1 c.args.view.now c.args.out.now c.requires p.first p.behind c.write_hex.ensures in
    w.room

pub slice_bounds-write_fields-start-2 : goal.slice_bounds-write_fields-start-2
slice_bounds-write_fields-start-2 c =
    let p = c.parted.ensures in
    let w = w1 c.args.view.now c.args.out.now c.requires p.first p.behind c.write_hex.ensures in
    w.room

pub write_fields-requires : goal.write_fields-requires
write_fields-requires c =
    let p = c.parted.ensures in
    let w = w1 c.args.view.now c.args.out.now c.requires p.first p.behind c.write_hex.ensures in
    room_for_next w c.requires (spaced behind_first c.parted.result.1.now) _ refl

pub overflow_add-last : goal.overflow_add-last
overflow_add-last c =
    let p = c.parted.ensures in
    let f = c.write_fields.ensures in
    let w = w2 c.args.view.now c.args.out.now c.requires p.first p.behind c.write_hex.ensures f.count f.written in
    omega (arith, w.room, w.same)

pub slice_bounds-write_record_fields-count : goal.slice_bounds-write_record_fields-count
slice_bounds-write_record_fields-count c =
    let p = c.parted.ensures in
    let f = c.write_fields.ensures in
    let w = w2 c.args.view.now c.args.out.now c.requires p.first p.behind c.write_hex.ensures f.count f.written in
    w.room

pub slice_bounds-write_record_fields-start : goal.slice_bounds-write_record_fields-start
slice_bounds-write_record_fields-start c =
    let p = c.parted.ensures in
    let f = c.write_fields.ensures in
    let w = w2 c.args.view.now c.args.out.now c.requires p.first p.behind c.write_hex.ensures f.count f.written in
    w.room

pub write_record_fields-requires : goal.write_record_fields-requires
write_record_fields-requires c =
    let p = c.parted.ensures in
    let f = c.write_fields.ensures in
    let w = w2 c.args.view.now c.args.out.now c.requires p.first p.behind c.write_hex.ensures f.count f.written in
    records_room c.args.view.now c.args.out.now c.requires w c.records_in.ensures.1 c.parted-2.ensures.behind

pub overflow_add-end : goal.overflow_add-end
overflow_add-end c =
    let p = c.parted.ensures in
    let f = c.write_fields.ensures in
    let w = w2 c.args.view.now c.args.out.now c.requires p.first p.behind c.write_hex.ensures f.count f.written in
    let r = c.write_record_fields.ensures in
    let q = c.parted-2.ensures in
    let e = end_room c.args.view.now c.args.out.now c.requires w c.records_in.ensures.1 q.behind r.count r.written in
    omega (arith, e)

pub bounds-out-end : goal.bounds-out-end
bounds-out-end c =
    let p = c.parted.ensures in
    let f = c.write_fields.ensures in
    let w = w2 c.args.view.now c.args.out.now c.requires p.first p.behind c.write_hex.ensures f.count f.written in
    let r = c.write_record_fields.ensures in
    let q = c.parted-2.ensures in
    let e = end_room c.args.view.now c.args.out.now c.requires w c.records_in.ensures.1 q.behind r.count r.written in
    let g = w3 c.args.view.now c.args.out.now c.requires w c.records_in.ensures.1 q.behind r.count r.written in
    omega (arith, e, g.same)

pub overflow_add-result : goal.overflow_add-result
overflow_add-result c =
    let p = c.parted.ensures in
    let f = c.write_fields.ensures in
    let w = w2 c.args.view.now c.args.out.now c.requires p.first p.behind c.write_hex.ensures f.count f.written in
    let r = c.write_record_fields.ensures in
    let q = c.parted-2.ensures in
    let e = end_room c.args.view.now c.args.out.now c.requires w c.records_in.ensures.1 q.behind r.count r.written in
    omega (arith, e)

pub returns : goal.returns
returns c =
    let p = c.parted.ensures in
    let f = c.write_fields.ensures in
    let w = w2 c.args.view.now c.args.out.now c.requires p.first p.behind c.write_hex.ensures f.count f.written in
    let r = c.write_record_fields.ensures in
    let q = c.parted-2.ensures in
    let e = w4 c.args.view.now c.args.out.now c.requires w c.records_in.ensures.1 q.behind r.count r.written in
    record { count = ends_at e refl; written = ends e refl }
