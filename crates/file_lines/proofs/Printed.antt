-- What is printed of a file that is refused, and of one that loads. Assumes nothing.
use mathlib.Core.List.{List}
use mathlib.Core.Path.{◌≡◌}
use Prim.Native.Nat.{ℕ}
use native.Mathlib.Omega.{arith}
use borrow.Author.Tests.{ne_eqb}
use Rattle.std.specs.Prelude.{Err}
use Rattle.file_sections.specs.Refusals.{refusal_number}
use Rattle.file_sections.specs.declared.Refusal.{Refusal}
use Rattle.script_file.specs.Checks.{refusal}
use Rattle.script_file.specs.Loading.{loaded}
use Rattle.script_file.proofs.Answers.{refused-number}
use Rattle.lines.specs.Lines.{refused_line, printed}
use Rattle.file_lines.specs.Lines.{file_lines}

pub refused_printed : (bs : List ℕ) (r : Refusal) → Err r ≡ loaded bs → refused_line (refusal_number r) ≡ printed bs
unfolding printed
refused_printed bs r e =
    let n = refused-number bs r e in
    rw (n.0, ne_eqb (refusal bs) 0 (λ z. omega (arith, n)))

pub lines_printed : (bs : List ℕ) → refusal bs ≡ 0 → file_lines bs ≡ printed bs
unfolding printed
lines_printed bs e = rw e
