-- The view: "A program reads a file from standard input and prints one line per label, that label reading, fields as
-- lower-case hex bytes parted by spaces (a value's kind and 0 byte are one field, every word, place and record kind its own)."
use Rattle.std.specs.Prelude.{cond, List, [], ◌∷◌, ◌++◌, ℕ, zero, suc, ◌+◌, ◌/◌, ◌%◌, ltb, eqb, take, drop}
use Rattle.labels.specs.Tables.{principals}
use Rattle.model.specs.Decoding.{u16}
use Rattle.view_fields.specs.Fields.{table_width}
use Rattle.script_file.specs.Sections.{header}
use Rattle.script_file.specs.Checks.{refusal}
use Rattle.view.specs.Reading.{file_view}

-- the characters 0 to 9, a to f
abbrev pub hex_digit : ℕ → ℕ
hex_digit d = cond (ltb d 10) (0x30 + d) (0x57 + d)

unfoldable pub hex : List ℕ → List ℕ
hex [] = []
hex (b ∷ bs) = hex_digit (b / 16) ∷ hex_digit (b % 16) ∷ hex bs

-- the widths of the fields: six numbers, the result, label and clearance; and of a record. T-07: "each 32 bytes print as one
-- field"
unfoldable pub front_fields : List ℕ
front_fields =
    2 ∷ 2 ∷ 2 ∷ 2 ∷ 2 ∷ 2 ∷ 2 ∷ table_width principals ∷ table_width principals ∷ table_width principals ∷ table_width principals
    ∷ table_width principals ∷ table_width principals ∷ []

unfoldable pub record_field_widths : List ℕ
record_field_widths =
    1 ∷ 1 ∷ table_width principals ∷ table_width principals ∷ 2 ∷ table_width principals ∷ table_width principals ∷ []

-- n records' fields
unfoldable pub widths : ℕ → List ℕ
widths zero = []
widths (suc n) = record_field_widths ++ widths n

-- fields of the given widths, each with a space before it
unfoldable pub spaced : List ℕ → List ℕ → List ℕ
spaced [] bs = []
spaced (w ∷ ws) bs = 0x20 ∷ hex (take w bs) ++ spaced ws (drop w bs)

-- A line: the fields parted by spaces, so without the first one's space, and a line feed. The number of records shown is
-- the view's fourth number.
unfoldable pub line : List ℕ → List ℕ
line v = drop 1 (spaced (front_fields ++ widths (u16 v 6)) v) ++ (0x0A ∷ [])

-- the lines of n labels from index i on
unfoldable pub lines : List ℕ → ℕ → ℕ → List ℕ
lines bs zero i = []
lines bs (suc n) i = line (file_view bs i) ++ lines bs n (suc i)

-- the digits of n, at most k + 1: below 10 one, else those of n / 10 and n % 10
unfoldable pub digits : ℕ → ℕ → List ℕ
digits zero n = (0x30 + n) ∷ []
digits (suc k) n = cond (ltb n 10) ((0x30 + n) ∷ []) (digits k (n / 10) ++ ((0x30 + n % 10) ∷ []))

-- a number in decimal; none has more than n + 1 digits
unfoldable pub decimal : ℕ → List ℕ
decimal n = digits n n

-- "the single line `refused`, a space and the number in decimal"
unfoldable pub refused_line : ℕ → List ℕ
refused_line n = 0x72 ∷ 0x65 ∷ 0x66 ∷ 0x75 ∷ 0x73 ∷ 0x65 ∷ 0x64 ∷ 0x20 ∷ decimal n ++ (0x0A ∷ [])

-- what the program prints of a file
unfoldable pub printed : List ℕ → List ℕ
printed bs = cond (eqb (refusal bs) 0) (lines bs (header bs).labels.count 0) (refused_line (refusal bs))
