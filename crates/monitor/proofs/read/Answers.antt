-- `monitor::read` meets its contract.
use mathlib.Core.Path.{◌≡◌, sym, ◌∙◌}
use Rattle.std.proofs.Common.{rules}
use Rattle.std.specs.Prelude.{Err}
use Rattle.script_file.proofs.Answers.{file-loads}
use Rattle.reading.proofs.Calls.{read_stopped}
use Rattle.monitor.proofs.read.Goals as goal

pub returns-in_err-header : goal.returns-in_err-header
returns-in_err-header c =
    let e : c.from_residual.result ≡ Err c.in_err-header.field-0.0 = search rules in
    rw e (read_stopped c.args.file.now _ _ (sym c.in_err-header.was ∙ c.load.ensures.0))

pub invariant_of-script : goal.invariant_of-script
invariant_of-script c = record { loads = file-loads _ _ _ _ (sym c.in_ok-header.was ∙ c.load.ensures.0) c.load.ensures.1 }
