-- What the functions that load a file share with each other, and with those that take a file that loads. No part of the
-- definition.
use Rattle.std.specs.Prelude.{List, ◌≡◌, ℕ}
use Rattle.labels.specs.declared.Label.{Label}
use Rattle.file_sections.specs.Sections.{or_none}
use Rattle.file_sections.specs.Labels.{Short, label_array}
use Rattle.script_file.specs.Sections.{header, file_labels}
use Rattle.script_file.specs.Checks.{refusal}
use Rattle.script_file.specs.declared.Header.{Header}

-- the header's numbers are 16 bits wide
pub record Shorts (h : Header) : Type 0 where
  pub records : Short h.records
  pub code : Short h.code

-- nothing stops the file, and these are its header and its labels
pub record Loads (bs : List ℕ) (h : Header) (ls : List Label) : Type 0 where
  pub none : refusal bs ≡ 0
  pub numbers : h ≡ header bs
  pub labels : ls ≡ label_array (or_none (file_labels bs))
