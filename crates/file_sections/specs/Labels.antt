-- A file's labels as the code holds them, and what the functions that read a section share with each other.
use Rattle.std.specs.Prelude.{cond, List, ◌++◌, ℕ, ◌-◌, ◌<◌, ◌^◌, eqb, length, replicate, Option, Some, None}
use Rattle.labels.specs.Order.{no_label}
use Rattle.labels.specs.declared.Label.{Label}
use Rattle.model.specs.FileLabels.{most_labels}
use Rattle.file_sections.specs.Sections.{or_none}
use Rattle.file_sections.specs.declared.Section.{Section}

-- a file's labels, and ⟨False, False⟩ behind them: as many as a file may have
unfoldable pub label_array : List Label → List Label
label_array ls = ls ++ replicate (most_labels - length ls) no_label

-- what stands in lent labels afterwards: the labels of a file that no check stops (its refusal is 0), else what stood there
abbrev pub labels_lent : ℕ → Option (List Label) → List Label → List Label
labels_lent refusal o ls = cond (eqb refusal 0) (label_array (or_none o)) ls

-- the labels that a section gives, none where it is malformed
abbrev pub labels_found : Option (List Label) → Option (List Label)
labels_found None = None
labels_found (Some ls) = Some (label_array ls)

-- a section's numbers are 16 bits wide
pub record Short (s : Section) : Type 0 where
  pub count : s.count < 2 ^ 16
  pub offset : s.offset < 2 ^ 16
