-- `day::views_fit` meets its contract.
use Rattle.std.proofs.Common.{sym, ◌∙◌, arith, le-leb}
use Rattle.view.specs.Writing.{observes}
use Rattle.day.proofs.Most.{day_most}
use Rattle.day.proofs.views_fit.Goals as goal

pub returns-then-most_bytes-room : goal.returns-then-most_bytes-room
returns-then-most_bytes-room c =
    le-leb _ c.args.room c.if-most_bytes-room.true
    ∙ sym (le-leb _ c.args.room (omega (arith, day_most c.args.day.file.now c.args.day.loads.none (observes c.args.reader), c.most_bytes.ensures)))
