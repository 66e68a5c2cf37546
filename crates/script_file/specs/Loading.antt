-- What loading a file gives: the answer, and the labels that are lent for it.
use Rattle.std.specs.Prelude.{List, ℕ, Result}
use Rattle.labels.specs.declared.Label.{Label}
use Rattle.file_sections.specs.Refusals.{answer}
use Rattle.file_sections.specs.Labels.{labels_lent}
use Rattle.file_sections.specs.declared.Refusal.{Refusal}
use Rattle.script_file.specs.Sections.{header, file_labels}
use Rattle.script_file.specs.Checks.{refusal}
use Rattle.script_file.specs.declared.Header.{Header}

unfoldable pub loaded : List ℕ → Result Header Refusal
loaded bs = answer (refusal bs) (header bs)

-- what stands in the lent labels afterwards
unfoldable pub labels_after : List ℕ → List Label → List Label
labels_after bs ls = labels_lent (refusal bs) (file_labels bs) ls
