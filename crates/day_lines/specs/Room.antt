-- How long the lines of a day can get for one label.
use Rattle.std.specs.Prelude.{ℕ, ◌*◌}
use Rattle.file_lines.specs.Room.{longest_line}

-- a day has at most 16 jobs
abbrev pub most_day_lines : ℕ
most_day_lines = 16 * longest_line
