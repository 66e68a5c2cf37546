-- `file_sections::no_labels` meets its contract. Assumes nothing.
use mathlib.Core.Path.{ap}
use lib.ListN.{replicate}
use Rattle.labels.specs.declared.Label.{Label}
use Rattle.file_sections.specs.Labels.{label_array}
use Rattle.file_sections.proofs.no_labels.Goals as goal

pub returns : goal.returns
unfolding label_array
returns c = ap (λ (l : Label). replicate 32 l) c.no_label.ensures
