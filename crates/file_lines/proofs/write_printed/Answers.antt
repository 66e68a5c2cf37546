-- A file that is refused has the line of its refusal; one that loads has a line for each label.
use Rattle.std.proofs.Common.{sym, ◌∙◌}
use Rattle.script_file.proofs.Answers.{file-loads}
use Rattle.file_lines.proofs.Printed.{refused_printed, lines_printed}
use Rattle.file_lines.proofs.write_printed.Goals as goal

pub invariant_of-script : goal.invariant_of-script
invariant_of-script c = record { loads = file-loads _ _ _ _ (sym c.in-Ok.is ∙ c.load.ensures.0) c.load.ensures.1 }

pub returns-in-Ok-clause-count : goal.returns-in-Ok-clause-count
returns-in-Ok-clause-count c =
    let loads = file-loads _ _ _ _ (sym c.in-Ok.is ∙ c.load.ensures.0) c.load.ensures.1 in
    rw (lines_printed c.args.file.now loads.none) at c.write_lines.ensures.count

pub returns-in-Ok-clause-written : goal.returns-in-Ok-clause-written
returns-in-Ok-clause-written c =
    let loads = file-loads _ _ _ _ (sym c.in-Ok.is ∙ c.load.ensures.0) c.load.ensures.1 in
    rw (lines_printed c.args.file.now loads.none) at c.write_lines.ensures.written

pub returns-in-Err-clause-count : goal.returns-in-Err-clause-count
returns-in-Err-clause-count c =
    rw (refused_printed c.args.file.now c.in-Err.refusal (sym c.in-Err.is ∙ c.load.ensures.0)) at c.write_refusal.ensures.count

pub returns-in-Err-clause-written : goal.returns-in-Err-clause-written
returns-in-Err-clause-written c =
    rw (refused_printed c.args.file.now c.in-Err.refusal (sym c.in-Err.is ∙ c.load.ensures.0)) at c.write_refusal.ensures.written
