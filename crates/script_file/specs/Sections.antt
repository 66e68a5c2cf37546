-- The file: "Header, eight 16-bit numbers ... Labels start at 16; records, code and the file's end follow without gaps."
use Rattle.std.specs.Prelude.{List, ℕ, drop, Option}
use Rattle.labels.specs.Tables.{principals}
use Rattle.labels.specs.declared.Label.{Label}
use Rattle.model.specs.Decoding.{u16}
use Rattle.file_sections.specs.Sections.{Sections, section, label_bytes_of, record_bytes_of, labels_of, label_of_over}
use Rattle.script_file.specs.declared.Header.{Header}

unfoldable pub header : List ℕ → Header
header bs =
    record { labels = section bs 0; records = section bs 4; code = section bs 8; steps = u16 bs 12; places = u16 bs 14 }

abbrev pub sections : List ℕ → Sections
sections bs = record { first = 16; labels = (header bs).labels.count; records = (header bs).records }

-- the bytes of the three sections
abbrev pub label_bytes : List ℕ → List ℕ
label_bytes bs = label_bytes_of (sections bs) bs

abbrev pub record_bytes : List ℕ → List ℕ
record_bytes bs = record_bytes_of (sections bs) bs

unfoldable pub code_bytes : List ℕ → List ℕ
code_bytes bs = drop (header bs).code.offset bs

abbrev pub file_labels : List ℕ → Option (List Label)
file_labels bs = labels_of (sections bs) bs

-- label i of a file, over n principals and over those that there are; past its labels, and of a file whose labels are
-- malformed, ⟨False, False⟩
abbrev pub label_at_over : ℕ → List ℕ → ℕ → Label
label_at_over n bs i = label_of_over n (sections bs) bs i

abbrev pub label_at : List ℕ → ℕ → Label
label_at = label_at_over principals
