-- What loading a day gives: the answer, and the labels that are lent for it.
use Rattle.std.specs.Prelude.{List, ℕ, Result}
use Rattle.labels.specs.declared.Label.{Label}
use Rattle.file_sections.specs.Labels.{labels_lent}
use Rattle.file_sections.specs.Refusals.{answer}
use Rattle.file_sections.specs.declared.Refusal.{Refusal}
use Rattle.day_file.specs.Sections.{day_header, day_labels}
use Rattle.day_file.specs.Checks.{day_refusal}
use Rattle.day_file.specs.declared.Header.{Header}

unfoldable pub loaded_day : List ℕ → Result Header Refusal
loaded_day bs = answer (day_refusal bs) (day_header bs)

-- what stands in the lent labels afterwards
abbrev pub labels_of_day : List ℕ → List Label → List Label
labels_of_day bs ls = labels_lent (day_refusal bs) (day_labels bs) ls
