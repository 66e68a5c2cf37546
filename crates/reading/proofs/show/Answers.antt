-- The view goes into the buffer where it is no longer than that.
use mathlib.Core.Path.{sym, ◌∙◌}
use native.Mathlib.Omega.{arith}
use Rattle.view.specs.Writing.{observes, outcome, run_view}
use Rattle.view.proofs.Widths.{length_view}
use Rattle.reading.proofs.Calls.{show_short, show_whole}
use Rattle.reading.proofs.show.Goals as goal

pub returns-then-buffer-n : goal.returns-then-buffer-n
returns-then-buffer-n c =
    let long = c.show_view-n.ensures.length ∙ sym (length_view (observes c.args.reader) c.args.run.steps (outcome c.args.run)) in
    show_short (run_view c.args.reader c.args.run) _ _ c.show_view-n.ensures.shown (omega (arith, c.if-buffer-n.true, long, c.show_view-n.auto.out))

pub returns : goal.returns
returns c =
    let long = c.show_view-n.ensures.length ∙ sym (length_view (observes c.args.reader) c.args.run.steps (outcome c.args.run)) in
    show_whole (run_view c.args.reader c.args.run) _ _ c.show_view-n.ensures.shown _ (omega (arith, c.if-buffer-n.false, long, c.show_view-n.auto.out)) long
