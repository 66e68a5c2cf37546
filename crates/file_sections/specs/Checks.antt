-- Stopped by the file: the checks that a plain file and a day both have.
use Rattle.std.specs.Prelude.{Bool, true, false, ◌&&◌, List, [], ◌∷◌, ℕ, zero, suc, ◌+◌, leb, ltb, Option, Some, None}
use Rattle.labels.specs.declared.Label.{Label}
use Rattle.model.specs.Decoding.{byte}
use Rattle.file_sections.specs.declared.Section.{Section}
use Rattle.file_sections.specs.Sections.{Sections, labels_over, record_bytes_of}

-- every test of a list holds
unfoldable pub every : List Bool → Bool
every [] = true
every (t ∷ ts) = t && every ts

-- 1: a size at least so large, and at most 65,535
abbrev pub size_within : ℕ → ℕ → Bool
size_within least n = every (leb least n ∷ leb n 65535 ∷ [])

-- 2: the counts of labels, input records and bytes of code, each within its limits
abbrev pub counts_within : Section → Section → Section → Bool
counts_within labels records code =
    every
    (leb 2 labels.count ∷ leb labels.count 32 ∷ leb records.count 64 ∷ leb 1 code.count ∷ leb code.count 4096 ∷ [])

-- 4: "A label entry malformed or cut, or the L entries don't end at the records offset."
abbrev pub present : Option (List Label) → Bool
present None = false
present (Some ls) = true

abbrev pub labels_pass : ℕ → Sections → List ℕ → Bool
labels_pass n s bs = present (labels_over n s bs)

-- 6: "A record's kind above 1 or label index L or more", of n records from byte i on
unfoldable pub records_ok : ℕ → List ℕ → ℕ → ℕ → Bool
records_ok l bs zero i = true
records_ok l bs (suc n) i = (leb (byte bs i) 1 && ltb (byte bs (i + 1)) l) && records_ok l bs n (i + 6)

abbrev pub records_pass : Sections → List ℕ → Bool
records_pass s bs = records_ok s.labels (record_bytes_of s bs) s.records.count 0
