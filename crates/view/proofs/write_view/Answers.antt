-- The records are written first, behind 206 bytes, and counted; then the counts, the numbers and the result in front of them.
use Rattle.std.proofs.Common.{◌≡◌, sym, ap, ◌∙◌, Bool, List, ◌++◌, append_assoc, arith, ℕ, ◌+◌, ◌*◌, ◌≤◌, length}
use Rattle.labels.specs.Tables.{principals}
use Rattle.labels.specs.declared.Label.{Label}
use Rattle.model.specs.State.{Store}
use Rattle.model.specs.declared.Finished.{Finished}
use Rattle.view_fields.specs.Writing.{over, numbers}
use Rattle.view_fields.proofs.Buffers.{part, back, length_back, before, three}
use Rattle.view_fields.proofs.Widths.{length_two, length_numbers}
use Rattle.view.specs.Layout.{record_fields, records_shown, counts, final, view, length_over}
use Rattle.view.specs.Writing.{closing, finished, observes}
use Rattle.view.proofs.Widths.{length_counts, length_final, view_parts}
use Rattle.view.proofs.write_view.Goals as goal

-- the parts of a view of n records
module _ (R : Label → Bool) (s : ℕ) (f : Finished) (σ : Store) (n : ℕ) (e : n ≡ records_shown R σ) where
  abbrev front : List ℕ
  front = counts R s f.ending (closing f)

  abbrev middle : List ℕ
  middle = numbers n 206 (206 + 132 * n)

  abbrev closes : List ℕ
  closes = final principals R f.ending (closing f)

  abbrev records : List ℕ
  records = record_fields principals R 0 σ

  whole : view R s (finished f σ) ≡ (front ++ (middle ++ closes)) ++ records
  unfolding length_over
  whole =
      view_parts R s (finished f σ)
      ∙ ap (λ (k : ℕ). front ++ (numbers k 206 (206 + 132 * k) ++ (closes ++ records))) (sym e)
      ∙ simp append_assoc

  front_length : length (front ++ (middle ++ closes)) ≡ 206
  front_length =
      length_two front (middle ++ closes) 6 200 (length_counts R f.ending (closing f) s)
      (length_two middle closes 6 194 (length_numbers n 206 (206 + 132 * n)) (length_final R f.ending (closing f)))

  -- the records are written behind 206 bytes, then those bytes, in three parts
  written : (out b₁ : List ℕ) {b₂ b₃ b₄ : List ℕ} → 206 ≤ length out → length b₁ ≡ length (part 206 out)
      → b₁ ≡ over records (part 206 out)
      → b₂ ≡ over front (back 206 out b₁) → b₃ ≡ over middle (part 6 b₂) → b₄ ≡ over closes (part 12 (back 6 b₂ b₃))
      → back 12 (back 6 b₂ b₃) b₄ ≡ over (view R s (finished f σ)) out
  written out b₁ {b₂} {b₃} {b₄} h l₁ e₁ e₂ e₃ e₄ =
      let same = length_back 206 out b₁ h l₁ in
      three front middle closes (back 206 out b₁)
      (length_counts R f.ending (closing f) s) (length_numbers n 206 (206 + 132 * n)) (length_final R f.ending (closing f))
      (omega (arith, same, h)) e₂ e₃ e₄
      ∙ before (front ++ (middle ++ closes)) records out front_length h e₁
      ∙ ap (λ (v : List ℕ). over v out) (sym whole)

pub returns-clause-written : goal.returns-clause-written
unfolding length_over
returns-clause-written c =
    let r = c.args.run in
    let e = c.write_records-n.ensures in
    written (observes c.args.reader) r.steps r.finish r.store.now c.write_records-n.result e.shown_count
    c.args.out.now c.write_records-n.new.out (omega (arith, c.requires)) c.write_records-n.auto.out
    e.written c.write_counts.ensures c.write_numbers.ensures c.write_final.ensures
