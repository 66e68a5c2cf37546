-- What is printed of a quote: the line `steps N places M`, both in decimal, or that of a refused file.
use Rattle.std.specs.Prelude.{List, [], ◌∷◌, ◌++◌, ℕ, Result, Ok, Err}
use Rattle.file_sections.specs.Refusals.{refusal_number}
use Rattle.file_sections.specs.declared.Refusal.{Refusal}
use Rattle.lines.specs.Lines.{decimal, refused_line}
use Rattle.quote.specs.Quoting.{quoting}
use Rattle.quote.specs.declared.Figures.{Figures}

-- `steps ` and ` places `
abbrev pub steps_text : List ℕ
steps_text = 0x73 ∷ 0x74 ∷ 0x65 ∷ 0x70 ∷ 0x73 ∷ 0x20 ∷ []

abbrev pub places_text : List ℕ
places_text = 0x20 ∷ 0x70 ∷ 0x6C ∷ 0x61 ∷ 0x63 ∷ 0x65 ∷ 0x73 ∷ 0x20 ∷ []

unfoldable pub figures_line : Figures → List ℕ
figures_line f = steps_text ++ (decimal f.steps ++ (places_text ++ (decimal f.places ++ (0x0A ∷ []))))

abbrev pub quote_line : Result Figures Refusal → List ℕ
quote_line (Ok f) = figures_line f
quote_line (Err r) = refused_line (refusal_number r)

-- what the program prints of a file
unfoldable pub quote_printed : List ℕ → List ℕ
quote_printed bs = quote_line (quoting bs)
