-- The fields of a view, byte by byte: numbers, labels, values, the result and a record. Tables are those of n principals.
use Rattle.std.specs.Prelude.{List, [], ◌∷◌, ◌++◌, ℕ, zero, suc, ◌+◌, ◌/◌, ◌%◌, ◌^◌}
use Rattle.labels.specs.Tables.{whole}
use Rattle.labels.specs.declared.Label.{Label}
use Rattle.model.specs.declared.Kind.{Kind}
use Rattle.model.specs.declared.Kind.TheVariants.{Sealed, Reference}
use Rattle.model.specs.declared.Datum.{Datum}
use Rattle.model.specs.declared.Datum.TheVariants.{Number, Label as Labelled, Handle}
use Rattle.model.specs.declared.Contents.{Contents}
use Rattle.model.specs.declared.Contents.TheVariants.{Value as Holds, Fault}
use Rattle.model.specs.declared.Record.{Record}
use Rattle.model.specs.declared.Ending.{Ending}
use Rattle.model.specs.declared.Ending.TheVariants.{Result, Fault as Faulted, Spent}

-- ── widths, in bytes, over n principals ──

-- a table, and as wide a word; a label: two tables; a value: kind, a 0 byte, two words; a record: place, kind, a label, a value
abbrev pub table_width : ℕ → ℕ
table_width n = 2 ^ n / 8

abbrev pub label_width : ℕ → ℕ
label_width n = table_width n + table_width n

abbrev pub value_width : ℕ → ℕ
value_width n = 2 + table_width n + table_width n

abbrev pub record_width : ℕ → ℕ
record_width n = 2 + label_width n + value_width n

-- ── numbers, labels and values ──

-- n in k bytes, little-endian
unfoldable pub little_endian : ℕ → ℕ → List ℕ
little_endian zero n = []
little_endian (suc k) n = n % 256 ∷ little_endian k (n / 256)

unfoldable pub label_field : ℕ → Label → List ℕ
label_field n l = little_endian (table_width n) (whole l.secrecy) ++ little_endian (table_width n) (whole l.integrity)

-- "A value is kind, a 0 byte, two" words as wide as a table, "with zeros above a number"
abbrev pub value_field : ℕ → ℕ → ℕ → ℕ → List ℕ
value_field n k x y = k ∷ 0 ∷ little_endian (table_width n) x ++ little_endian (table_width n) y

unfoldable pub datum_field : ℕ → Datum → List ℕ
datum_field n (Number x) = value_field n 1 x 0
datum_field n (Labelled l) = value_field n 2 (whole l.secrecy) (whole l.integrity)
datum_field n (Handle Sealed p) = value_field n 3 p 0
datum_field n (Handle Reference p) = value_field n 4 p 0

unfoldable pub contents_field : ℕ → Contents → List ℕ
contents_field n (Holds d) = datum_field n d
contents_field n (Fault code x) = value_field n 5 code x

-- ── the ending ──

-- "ending (1 result, 2 fault, 3 spent)"
unfoldable pub ending_number : Ending → ℕ
ending_number (Result d) = 1
ending_number (Faulted code n) = 2
ending_number Spent = 3

-- "result (the fault, or none if spent)"
unfoldable pub result_field : ℕ → Ending → List ℕ
result_field n (Result d) = datum_field n d
result_field n (Faulted code x) = value_field n 5 code x
result_field n Spent = value_field n 0 0 0

-- ── records ──

unfoldable pub kind_byte : Kind → ℕ
kind_byte Sealed = 0
kind_byte Reference = 1

-- "place and kind (one byte each), label, value"
unfoldable pub record_field : ℕ → ℕ → Record → List ℕ
record_field n p r = p ∷ kind_byte r.kind ∷ label_field n r.label ++ contents_field n r.contents
