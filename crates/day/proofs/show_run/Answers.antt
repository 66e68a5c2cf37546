-- `day::show_run` meets its contract.
use Rattle.std.proofs.Common.{sym, ◌∙◌, arith}
use Rattle.view.specs.Writing.{observes, outcome, run_view}
use Rattle.view.proofs.Widths.{length_view}
use Rattle.day.proofs.Views.{shown_not, shown_part}
use Rattle.day.proofs.show_run.Goals as goal

pub returns-then-out-at : goal.returns-then-out-at
returns-then-out-at c = record {
  long = c.view_length.ensures ∙ sym (length_view (observes c.args.reader) c.args.run.steps (outcome c.args.run));
  written = shown_not _ (run_view c.args.reader c.args.run) _ (omega (arith, c.if-out-at.true));
}

pub returns : goal.returns
returns c = record {
  long = c.show_view.ensures.length ∙ sym (length_view (observes c.args.reader) c.args.run.steps (outcome c.args.run));
  written = shown_part _ (run_view c.args.reader c.args.run) _ _ c.if-out-at.false c.show_view.ensures.shown;
}
