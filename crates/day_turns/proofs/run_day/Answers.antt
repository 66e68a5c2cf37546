-- `day_turns::run_day` meets its contract. The loop's invariant is `Keeping`.
use Rattle.std.proofs.Common.{Bool, List, sym, ap, ◌∙◌, ℕ}
use Rattle.labels.specs.declared.Label.{Label}
use Rattle.day_file.specs.declared.Header.{Header}
use Rattle.day_file.specs.declared.day.Day.{Day}
use Rattle.admission.specs.Allowances.{allowances_of}
use Rattle.day_jobs.specs.Running.{ran, job_run, store_after}
use Rattle.day_jobs.proofs.Jobs.{below_all, all_below, is_job}
use Rattle.day.specs.Views.{turn_view}
use Rattle.day_turns.proofs.Keeping.{none_kept, one_skipped, one_ran, all_kept}
use Rattle.day_turns.proofs.run_day.Goals as goal
use Rattle.day_turns.proofs.run_day.Goals.{then-admit_caller, else-admit_caller}

pub loop-k-init : goal.loop-k-init
loop-k-init c =
    none_kept c.args.day.file.now _ _ _ c.told-kept
    (c.full_allowances-callers.ensures ∙ ap (λ (g : Header). allowances_of g.steps) c.args.day.loads.numbers) c.place_inputs.ensures

pub loop-k-preserved : goal.loop-k-preserved
loop-k-preserved c =
    let loads = c.args.day.loads in
    let v = c.loop-k.invariant in
    let j = c.job_of-job.result in
    let σ = c.loop-k.store in
    let below = below_all loads c.loop-k-test.true in
    let is = is_job loads _ c.job_of-job.ensures.is in
    let of_day = ap (λ (d : Day). d.file.now) c.job_of-job.ensures.of_day in
    elim c.if-admit_caller.branch [
      | then-admit_caller w ↦
          rw (w.kept-is, w.store-is)
          (one_ran c.args.day.file.now v below c.job_of-job.ensures.few is j.runs.caller c.admit_caller.ensures.taken (sym c.admit_caller.ensures.answer ∙ w.if-admit_caller.true) _
          (λ (Reads : Label → Bool). w.keep_job.ensures.turn Reads ∙ ap (λ (bs : List ℕ). turn_view Reads (ran j.numbers.steps (job_run bs j.numbers σ))) of_day)
          (w.keep_job.ensures.ended ∙ ap (λ (bs : List ℕ). store_after bs j.numbers σ) of_day))
      | else-admit_caller w ↦
          rw (w.kept-is, w.store-is)
          (one_skipped c.args.day.file.now v below c.job_of-job.ensures.few is j.runs.caller c.admit_caller.ensures.taken
          (sym c.admit_caller.ensures.answer ∙ w.if-admit_caller.false))
    ]

pub returns : goal.returns
returns c = all_kept c.args.day.file.now c.loop-k.invariant (all_below c.args.day.loads c.loop-k-test.false)
