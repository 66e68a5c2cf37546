-- `quote_lines::write_quote` meets its contract: a line for either answer.
use mathlib.Core.List.{List}
use mathlib.Core.Path.{◌≡◌, sym, ap, ◌∙◌}
use Prim.Native.Nat.{ℕ}
use lib.ListN.{length}
use Rattle.std.specs.Prelude.{Result}
use Rattle.file_sections.specs.declared.Refusal.{Refusal}
use Rattle.view_fields.specs.Writing.{over}
use Rattle.quote.specs.Quoting.{quoting}
use Rattle.quote.specs.declared.Figures.{Figures}
use Rattle.quote_lines.specs.Lines.{quote_line, quote_printed}
use Rattle.quote_lines.proofs.write_quote.Goals as goal

-- the line of an answer is what is printed of the file
module _ (bs : List ℕ) (q : Result Figures Refusal) (e : q ≡ quoting bs) where
  line_length : length (quote_line q) ≡ length (quote_printed bs)
  unfolding quote_printed
  line_length = ap (λ (x : Result Figures Refusal). length (quote_line x)) e

  line_over : (out : List ℕ) → over (quote_line q) out ≡ over (quote_printed bs) out
  unfolding quote_printed
  line_over out = ap (λ (x : Result Figures Refusal). over (quote_line x) out) e

pub returns-in-Ok-clause-count : goal.returns-in-Ok-clause-count
returns-in-Ok-clause-count c = c.write_figures.ensures.count ∙ line_length _ _ (sym c.in-Ok.is ∙ c.quote_file.ensures)

pub returns-in-Ok-clause-written : goal.returns-in-Ok-clause-written
returns-in-Ok-clause-written c = c.write_figures.ensures.written ∙ line_over _ _ (sym c.in-Ok.is ∙ c.quote_file.ensures) _

pub returns-in-Err-clause-count : goal.returns-in-Err-clause-count
returns-in-Err-clause-count c = c.write_refusal.ensures.count ∙ line_length _ _ (sym c.in-Err.is ∙ c.quote_file.ensures)

pub returns-in-Err-clause-written : goal.returns-in-Err-clause-written
returns-in-Err-clause-written c = c.write_refusal.ensures.written ∙ line_over _ _ (sym c.in-Err.is ∙ c.quote_file.ensures) _
