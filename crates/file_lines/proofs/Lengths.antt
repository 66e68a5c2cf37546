-- How long a view, its line and the lines of a file get. Assumes nothing.
use mathlib.Core.Bool.{Bool}
use mathlib.Core.List.{List}
use mathlib.Core.Path.{◌≡◌}
use Prim.Native.Nat.{ℕ, zero, suc, ◌+◌, ◌*◌, ◌≤◌}
use native.Mathlib.Omega.{arith}
use lib.ListN.{length, length-append}
use Rattle.labels.specs.Order.{flows}
use Rattle.labels.specs.declared.Label.{Label}
use Rattle.model.specs.State.{Outcome}
use Rattle.script_file.specs.Sections.{header, label_at}
use Rattle.script_file.specs.Program.{file_run}
use Rattle.view.specs.Layout.{records_shown, view, length_over}
use Rattle.view.specs.Reading.{file_view, file_view_over}
use Rattle.view.proofs.Widths.{length_view}
use Rattle.view.proofs.LengthField.{count_field, shown_most}
use Rattle.lines.specs.Lines.{line, lines}
use Rattle.lines.proofs.Printing.{length_line}
use Rattle.file_lines.specs.Room.{longest_line}

-- ── a view ──

module _ (Reads : Label → Bool) where
  module _ (s : ℕ) (o : Outcome) where
    long : length (view Reads s o) ≡ 206 + 132 * records_shown Reads o.store
    unfolding length_over
    long = length_view Reads s o

    pub line_most : length o.store ≤ 256 → length (line (view Reads s o)) ≤ longest_line
    line_most le =
        let n = shown_most Reads o.store in
        omega (arith, long, length_line (view Reads s o), count_field Reads s o (omega arith))

-- ── the lines of a file ──

pub lines_most : (bs : List ℕ) → length (file_run bs).store ≤ 256 → (n i : ℕ) → length (lines bs n i) ≤ longest_line * n
unfolding lines file_view_over
lines_most bs le zero i = omega arith
lines_most bs le (suc n) i =
    let a = length-append (line (file_view bs i)) (lines bs n (suc i)) in
    let e = line_most (λ l. flows l (label_at bs i)) (header bs).steps (file_run bs) le in
    let f = lines_most bs le n (suc i) in
    omega arith
