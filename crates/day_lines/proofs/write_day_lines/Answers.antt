-- `day_lines::write_day_lines` meets its contract. The loop's invariant is `Served`.
use Rattle.std.proofs.Common.{None, sym, ap, ◌∙◌, ℕ, ◌≤◌, ◌<◌, arith}
use Rattle.std.proofs.Math.ListN.{length-take}
use Rattle.std.proofs.lemmas.List.{get_or-take, get_or_read_under}
use Rattle.labels.specs.declared.Label.{Label}
use Rattle.day_file.proofs.Answers.{few_jobs}
use Rattle.day_jobs.proofs.Jobs.{few, below_all, all_below, labels_are}
use Rattle.day_lines.proofs.Jobs.{one_more, all_served, lines_are}
use Rattle.day_lines.proofs.write_day_lines.Goals as goal

pub shared_ref_as_front-jobs : goal.shared_ref_as_front-jobs
shared_ref_as_front-jobs c = few c.args.day.loads

pub loop-job-preserved : goal.loop-job-preserved
loop-job-preserved c =
    let n = c.args.day.header.jobs.count in
    let i = c.loop-job.job-index in
    let x = c.job-item.result in
    let below : i < n = omega (arith, length-take n c.args.kept.now, c.loop-job-test.true) in
    let is = get_or_read_under c.args.kept.now i 16 x None (c.job-item.is ∙ get_or-take n c.args.kept.now i x below) (omega (arith, few c.args.day.loads)) (sym c.told-kept) in
    one_more _ _ c.requires.is_kept c.loop-job.invariant
    (omega (arith, (few_jobs c.args.day.file.now c.args.day.loads.none).1, c.requires.room)) (below_all c.args.day.loads below)
    is c.write_job_line-at.ensures.most c.write_job_line-at.ensures.long
    c.write_job_line-at.ensures.written

pub returns : goal.returns
returns c =
    let n = c.args.day.header.jobs.count in
    let past : n ≤ c.loop-job.job-index =
    omega (arith, length-take n c.args.kept.now, c.told-kept, few c.args.day.loads, c.loop-job-test.false) in
    let e = c.label_at-label.ensures ∙ ap (λ (ls : ℕ → Label). ls c.args.reader) (labels_are c.args.day.loads) in
    let all = all_served _ _ c.requires.is_kept c.loop-job.invariant (all_below c.args.day.loads past) in
    let same = lines_are c.args.day.file.now c.args.reader c.label_at-label.result e in
    record { long = rw same at all.0; written = rw same at all.1 }
