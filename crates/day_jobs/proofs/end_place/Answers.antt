-- `day_jobs::end_place` meets its contract.
use Rattle.std.proofs.Common.{sym, ◌∙◌, arith}
use Rattle.day_jobs.proofs.JobEnd.{emptied, stays_empty, kept_there}
use Rattle.day_jobs.proofs.end_place.Goals as goal

pub returns-then-count-p : goal.returns-then-count-p
returns-then-count-p c = c.clear.ensures ∙ emptied _ _ c.args.store.now (omega arith)

pub returns-in-Some : goal.returns-in-Some
returns-in-Some c =
    rw c.kept_contents-contents.ensures at c.save.ensures
    ∙ kept_there _ _ c.args.store.now _ (omega arith) (sym c.load.ensures ∙ c.in-Some.is)

pub returns-in_default : goal.returns-in_default
returns-in_default c = stays_empty _ _ c.args.store.now (sym c.load.ensures ∙ c.in_default.is)
