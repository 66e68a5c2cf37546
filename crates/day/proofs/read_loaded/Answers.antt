-- `day::read_loaded` meets its contract.
use Rattle.std.proofs.Common.{sym, ◌∙◌}
use Rattle.day.proofs.Answers.{read_unlisted, read_short, read_shown}
use Rattle.day.proofs.read_loaded.Goals as goal

pub returns-then-day-reader : goal.returns-then-day-reader
returns-then-day-reader c = read_unlisted c.args.day.loads _ _ c.if-day-reader.true

pub returns-then-not-views_fit : goal.returns-then-not-views_fit
returns-then-not-views_fit c =
    read_short c.args.day.loads _ _ _ c.if-day-reader.false c.label_at-label.ensures (sym c.views_fit.ensures ∙ c.if-not-views_fit.true)

pub returns : goal.returns
returns c =
    read_shown c.args.day.loads _ _ _ c.if-day-reader.false c.label_at-label.ensures (sym c.views_fit.ensures ∙ c.if-not-views_fit.false)
    _ _ c.write_views.ensures.long c.write_views.ensures.written
