-- 13 fields and 7 of each record, and the bytes that are there.
use Rattle.std.proofs.Common.{arith}
use Rattle.lines.proofs.Printing.{length_line}
use Rattle.lines.proofs.line_length.Goals as goal

pub returns : goal.returns
returns c = omega (arith, length_line c.args.view.now)
