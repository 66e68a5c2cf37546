-- The counts are shown, or are zeros, by whether the run's last label flows to the reader.
use Rattle.std.proofs.Common.{◌∙◌, arith}
use Rattle.view.proofs.Closing.{counts_written, counts_blank}
use Rattle.view.proofs.write_counts.Goals as goal

pub returns-then-flows : goal.returns-then-flows
returns-then-flows c =
    let a = c.args in
    c.write_numbers.ensures
    ∙ counts_written a.reader a.run.finish a.out.now c.flows.ensures a.run.steps c.if-flows.true
    c.ending_number.ensures (omega arith)

pub returns-else-flows : goal.returns-else-flows
returns-else-flows c =
    let a = c.args in
    c.write_zeros.ensures ∙ counts_blank a.reader a.run.finish a.out.now c.flows.ensures a.run.steps c.if-flows.false
