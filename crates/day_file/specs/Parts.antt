-- What the functions that load a day share with each other, and with those that take a day that loads. No part of the
-- definition.
use Rattle.std.specs.Prelude.{List, ◌≡◌, ℕ, ◌<◌, ◌^◌}
use Rattle.labels.specs.declared.Label.{Label}
use Rattle.file_sections.specs.Sections.{or_none}
use Rattle.file_sections.specs.Labels.{Short, label_array}
use Rattle.day_file.specs.Sections.{day_header, day_labels}
use Rattle.day_file.specs.Checks.{day_refusal}
use Rattle.day_file.specs.declared.Header.{Header}

-- the header's sections have numbers of 16 bits, and its steps are a number of 32
pub record Shorts (h : Header) : Type 0 where
  pub records : Short h.records
  pub jobs : Short h.jobs
  pub code : Short h.code
  pub steps : h.steps < 2 ^ 32

-- nothing stops the day, and these are its header and its labels
pub record DayLoads (bs : List ℕ) (h : Header) (ls : List Label) : Type 0 where
  pub none : day_refusal bs ≡ 0
  pub numbers : h ≡ day_header bs
  pub labels : ls ≡ label_array (or_none (day_labels bs))
