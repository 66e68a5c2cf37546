-- The sections that a plain file and a day both have: labels, from a byte on up to the records, and input records.
use Rattle.std.specs.Prelude.{List, [], ◌∷◌, ℕ, zero, suc, ◌+◌, ◌-◌, ◌*◌, get_or, take, drop, Option, Some, None}
use Rattle.labels.specs.Tables.{principals}
use Rattle.labels.specs.Order.{no_label}
use Rattle.label_entries.specs.Entries.{read_entry_over}
use Rattle.labels.specs.declared.Label.{Label}
use Rattle.model.specs.Decoding.{u16}
use Rattle.model.specs.Inputs.{Input, inputs}
use Rattle.file_sections.specs.declared.Section.{Section}

-- a count and the offset behind it
abbrev pub section : List ℕ → ℕ → Section
section bs i = record { count = u16 bs i; offset = u16 bs (i + 2) }

-- where a file's labels start, how many there are, and its records
pub record Sections : Type 0 where
  pub first : ℕ
  pub labels : ℕ
  pub records : Section

unfoldable pub label_bytes_of : Sections → List ℕ → List ℕ
label_bytes_of s bs = take (s.records.offset - s.first) (drop s.first bs)

unfoldable pub record_bytes_of : Sections → List ℕ → List ℕ
record_bytes_of s bs = take (6 * s.records.count) (drop s.records.offset bs)

-- ── labels ──

abbrev pub cons_label : Label → Option (List Label) → Option (List Label)
cons_label l None = None
cons_label l (Some ls) = Some (l ∷ ls)

abbrev pub labels_after : (ℕ → Option (List Label)) → Option (Label × ℕ) → Option (List Label)
labels_after rest None = None
labels_after rest (Some e) = cons_label e.0 (rest e.1)

abbrev none_left : List ℕ → Option (List Label)
none_left [] = Some []
none_left (b ∷ bs) = None

-- k label entries over n principals, and no byte behind them
unfoldable pub read_labels_over : ℕ → ℕ → List ℕ → Option (List Label)
read_labels_over n zero bs = none_left bs
read_labels_over n (suc k) bs = labels_after (λ i. read_labels_over n k (drop i bs)) (read_entry_over n bs)

abbrev pub read_labels : ℕ → List ℕ → Option (List Label)
read_labels = read_labels_over principals

unfoldable pub labels_over : ℕ → Sections → List ℕ → Option (List Label)
labels_over n s bs = read_labels_over n s.labels (label_bytes_of s bs)

abbrev pub labels_of : Sections → List ℕ → Option (List Label)
labels_of = labels_over principals

abbrev pub or_none : Option (List Label) → List Label
or_none None = []
or_none (Some ls) = ls

-- label i of a file; past its labels, and of a file whose labels are malformed, ⟨False, False⟩
unfoldable pub label_of_over : ℕ → Sections → List ℕ → ℕ → Label
label_of_over n s bs i = get_or (or_none (labels_over n s bs)) i no_label

abbrev pub label_of : Sections → List ℕ → ℕ → Label
label_of = label_of_over principals

-- ── input records ──

unfoldable pub inputs_over : ℕ → Sections → List ℕ → List Input
inputs_over n s bs = inputs (label_of_over n s bs) (record_bytes_of s bs) s.records.count 0

abbrev pub inputs_of : Sections → List ℕ → List Input
inputs_of = inputs_over principals
