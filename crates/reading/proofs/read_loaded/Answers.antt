-- Check 8 comes before the run; what is shown is the view of the file's run.
use mathlib.Core.Path.{◌∙◌}
use native.Mathlib.Omega.{arith}
use Rattle.reading.proofs.Calls.{read_unlisted, read_shown}
use Rattle.reading.proofs.read_loaded.Goals as goal

pub returns-then-header-reader : goal.returns-then-header-reader
returns-then-header-reader c = read_unlisted _ _ _ c.args.script.loads _ _ (omega arith)

pub returns : goal.returns
returns c =
    c.show.ensures ∙ read_shown _ _ _ c.args.script.loads _ _ _ _ _ (omega arith) c.label_at.ensures c.run_file-finish.ensures
