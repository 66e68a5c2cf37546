-- `monitor::read_day` meets its contract.
use mathlib.Core.Path.{◌≡◌, sym, ◌∙◌}
use Rattle.std.proofs.Common.{rules}
use Rattle.std.specs.Prelude.{Err}
use Rattle.day_file.specs.Checks.{day_refusal}
use Rattle.day_file.specs.Loading.{loaded_day}
use Rattle.day_file.specs.Sections.{day_header}
use Rattle.day_file.proofs.Answers.{day-loads}
use Rattle.day.specs.Views.{day_reading, day_view}
use Rattle.reading.proofs.Calls.{stopped}
use Rattle.monitor.proofs.read_day.Goals as goal

pub returns-in_err-header : goal.returns-in_err-header
unfolding day_reading loaded_day
returns-in_err-header c =
    let e : c.from_residual.result ≡ Err c.in_err-header.field-0.0 = search rules in
    let bs = c.args.file.now in
    rw e (stopped (day_refusal bs) (day_header bs).labels.count (day_view bs c.args.reader) _ _ (day_header bs) (sym c.in_err-header.was ∙ c.load_day.ensures.0))

pub invariant_of-day : goal.invariant_of-day
invariant_of-day c = record { loads = day-loads _ _ _ _ (sym c.in_ok-header.was ∙ c.load_day.ensures.0) c.load_day.ensures.1 }
