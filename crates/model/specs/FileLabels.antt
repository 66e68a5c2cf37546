-- The labels of a file, by their index. No part of the definition.
use Rattle.std.specs.Prelude.{List, ℕ, get_or}
use Rattle.labels.specs.Order.{no_label}
use Rattle.labels.specs.declared.Label.{Label}

-- how many labels a file may have
abbrev pub most_labels : ℕ
most_labels = 32

-- the label with an index; ⟨False, False⟩ stands behind the last
unfoldable pub label_in : List Label → ℕ → Label
label_in ls i = get_or ls i no_label
