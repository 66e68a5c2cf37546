-- `day::most_bytes` meets its contract: what is left of the jobs makes the rest of the sum.
use Rattle.std.proofs.Common.{◌≡◌, ap, ◌∙◌, arith}
use Rattle.day_file.specs.declared.Header.{Header}
use Rattle.day_file.specs.declared.Job.{Job}
use Rattle.day_file.specs.Sections.{jobs_from}
use Rattle.day.specs.Parts.{most_bytes}
use Rattle.day_jobs.proofs.Turns.{jobs_left, all_left}
use Rattle.day.proofs.Turns.{most_here, most_nothing}
use Rattle.day.proofs.most_bytes.Goals as goal

pub loop-j-preserved : goal.loop-j-preserved
loop-j-preserved c =
    let d = c.args.day in
    let same = ap (λ (j : Job). j.places) c.job_of.ensures.is in
    record {
      small = omega (arith, c.job_of.result.runs.places);
      sum =
          omega (arith, c.loop-j.invariant.sum, same, most_here d.file.now d.header.jobs.offset d.header.jobs.count c.loop-j.j c.loop-j-test.true);
    }

pub returns : goal.returns
returns c =
    let bs = c.args.day.file.now in
    let at = c.args.day.header.jobs.offset in
    let n = c.args.day.header.jobs.count in
    let none = most_nothing bs at n c.loop-j.j c.loop-j-test.false in
    let all : c.loop-j.n ≡ most_bytes (jobs_left bs at n 0) = omega (arith, c.loop-j.invariant.sum, none) in
    all ∙ ap most_bytes (all_left bs at n) ∙ ap (λ (g : Header). most_bytes (jobs_from bs g.jobs.count g.jobs.offset)) c.args.day.loads.numbers
