use mathlib.Core.Path.{sym}
use lib.Seq.{length-take-le}
use Rattle.view_fields.proofs.Buffers.{written_within}
use Rattle.day_printing.proofs.print_labels.Goals as goal

-- a label's lines lie within the buffer
pub slice_bounds-write_all-end-in-loop-reader : goal.slice_bounds-write_all-end-in-loop-reader
slice_bounds-write_all-end-in-loop-reader g c =
    sym (length-take-le _ _ (written_within _ _ c.write_day_lines-n.ensures.long c.write_day_lines-n.ensures.written))
