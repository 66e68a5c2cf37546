-- How long the lines of a file can get.
use Rattle.std.specs.Prelude.{ℕ, ◌+◌, ◌*◌}
use Rattle.labels.specs.Tables.{principals}
use Rattle.view_fields.specs.Fields.{record_width}
use Rattle.view.specs.Layout.{records_at}

-- the line of a view of n records: two digits for each byte, and a space or line feed behind each field
abbrev pub line_of_records : ℕ → ℕ
line_of_records n = 13 + 7 * n + 2 * (records_at + record_width principals * n)

-- a view shows a record at each of the 256 places at most
abbrev pub longest_line : ℕ
longest_line = line_of_records 256

-- a file has at most 32 labels
abbrev pub most_printed : ℕ
most_printed = 32 * longest_line
