-- `day::write_views` meets its contract. The loop's invariant is `Served`.
use Rattle.std.proofs.Common.{List, sym, ap, ◌∙◌, ℕ, length}
use Rattle.view.specs.Writing.{observes}
use Rattle.day_file.specs.declared.Header.{Header}
use Rattle.day_file.specs.declared.day.Day.{Day}
use Rattle.admission.specs.Allowances.{allowances_of}
use Rattle.day_jobs.specs.Running.{store_after}
use Rattle.day_jobs.proofs.Jobs.{below_all, all_below, is_job}
use Rattle.day.specs.Parts.{shown_at, job_view}
use Rattle.day.proofs.Views.{none_served, one_skipped, one_ran, all_served}
use Rattle.day.proofs.write_views.Goals as goal
use Rattle.day.proofs.write_views.Goals.{then-admit_caller, else-admit_caller}

pub loop-k-init : goal.loop-k-init
loop-k-init c =
    none_served _ c.args.day.file.now _ _ _
    (c.full_allowances-callers.ensures ∙ ap (λ (g : Header). allowances_of g.steps) c.args.day.loads.numbers) c.place_inputs.ensures

pub loop-k-preserved : goal.loop-k-preserved
loop-k-preserved c =
    let loads = c.args.day.loads in
    let v = c.loop-k.invariant in
    let j = c.job_of-job.result in
    let σ = c.loop-k.store in
    let Reads = observes c.args.reader in
    let below = below_all loads c.loop-k-test.true in
    let is = is_job loads _ c.job_of-job.ensures.is in
    let of_day = ap (λ (d : Day). d.file.now) c.job_of-job.ensures.of_day in
    elim c.if-admit_caller.branch [
      | then-admit_caller w ↦
          rw (w.out-is, w.store-is, w.at-is)
          (one_ran _ _ v below is j.runs.caller c.admit_caller.ensures.taken (sym c.admit_caller.ensures.answer ∙ w.if-admit_caller.true)
          (w.serve_job-at.ensures.ended ∙ ap (λ (bs : List ℕ). store_after bs j.numbers σ) of_day) w.serve_job-at.ensures.most
          (w.serve_job-at.ensures.long ∙ ap (λ (bs : List ℕ). length (job_view Reads bs j.numbers σ)) of_day)
          (w.serve_job-at.ensures.written ∙ ap (λ (bs : List ℕ). shown_at c.loop-k.at (job_view Reads bs j.numbers σ) c.loop-k.out) of_day)
          w.serve_job-at.auto.out)
      | else-admit_caller w ↦
          rw (w.out-is, w.store-is, w.at-is)
          (one_skipped _ _ v below is j.runs.caller c.admit_caller.ensures.taken (sym c.admit_caller.ensures.answer ∙ w.if-admit_caller.false)
          w.show_skipped-at.ensures.written w.show_skipped-at.auto.out w.show_skipped-at.ensures.long)
    ]

pub returns-clause-long : goal.returns-clause-long
returns-clause-long c = (all_served _ _ c.loop-k.invariant (all_below c.args.day.loads c.loop-k-test.false)).0

pub returns-clause-written : goal.returns-clause-written
returns-clause-written c = (all_served _ _ c.loop-k.invariant (all_below c.args.day.loads c.loop-k-test.false)).1
