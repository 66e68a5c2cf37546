-- The lines of a file that loads, as the contracts of their writers name them.
use Rattle.std.specs.Prelude.{List, ℕ}
use Rattle.script_file.specs.Sections.{header}
use Rattle.lines.specs.Lines.{lines}

-- a line for each of the file's labels
abbrev pub file_lines : List ℕ → List ℕ
file_lines bs = lines bs (header bs).labels.count 0
