-- The lines of the labels so far are written, up to byte `at`.
use Rattle.std.proofs.Common.{◌-◌}
use Rattle.lines.specs.Lines.{lines}
use Rattle.view_fields.proofs.Buffers.{Writing}
use Rattle.file_lines.specs.Lines.{file_lines}
use Rattle.file_lines.proofs.write_lines.Given as goal

abbrev pub invariant-loop-reader : goal.invariant-loop-reader
invariant-loop-reader l =
    let bs = l.script.file.now in
    Writing (file_lines bs) (lines bs (l.script.header.labels.count - l.reader-index) l.reader-index) l.initial.out l.out l.at
