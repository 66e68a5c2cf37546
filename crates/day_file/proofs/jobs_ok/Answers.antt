-- `day_file::jobs_ok` meets its contract: a number of jobs out of its limits decides, or the first job that fails, or none.
use mathlib.Core.Logic.{⊎_elim}
use mathlib.Core.Path.{sym, ap, ◌∙◌}
use Rattle.model.specs.FileLabels.{label_in}
use Rattle.day_file.specs.Checks.{job_ok}
use Rattle.day_file.proofs.Turns.{all_left, one_stops, one_less, none_left, too_few, too_many, few_enough}
use Rattle.day_file.proofs.jobs_ok.Goals as goal

pub returns-then-h-lt1 : goal.returns-then-h-lt1
returns-then-h-lt1 c = sym (⊎_elim (λ few. too_few _ _ _ few) (λ many. too_many _ _ _ many.1) c.then-h-lt1.either)

pub loop-i-init : goal.loop-i-init
loop-i-init c = all_left _ _ _ _

pub returns-then-not-job_ok : goal.returns-then-not-job_ok
returns-then-not-job_ok c =
    let fails = sym (ap (job_ok c.args.h (label_in c.args.labels.now)) c.job_at.ensures.0) ∙ sym c.job_ok.ensures ∙ c.if-not-job_ok.true in
    sym (few_enough _ _ _ c.if-h-lt1.false c.if-h-gt16.false ∙ one_stops c.loop-i.invariant c.loop-i-test.true fails)

pub loop-i-preserved : goal.loop-i-preserved
loop-i-preserved c =
    one_less c.loop-i.invariant c.loop-i-test.true
    (sym (ap (job_ok c.args.h (label_in c.args.labels.now)) c.job_at.ensures.0) ∙ sym c.job_ok.ensures ∙ c.if-not-job_ok.false)

pub returns : goal.returns
returns c = sym (few_enough _ _ _ c.if-h-lt1.false c.if-h-gt16.false ∙ none_left c.loop-i.invariant c.loop-i-test.false)
