-- `day::serve_job` meets its contract.
use Rattle.std.proofs.Common.{List, ap, ◌∙◌, ℕ, length, arith}
use Rattle.view.specs.Writing.{observes}
use Rattle.day_file.specs.declared.Header.{Header}
use Rattle.day.specs.Parts.{shown_at}
use Rattle.day.proofs.Views.{served_view, served_store, served_length}
use Rattle.day.proofs.serve_job.Goals as goal

pub returns : goal.returns
returns c =
    let j = c.args.job in
    let Reads = observes c.args.reader in
    let bs = j.day.file.now in
    let σ = c.args.store.now in
    let f = c.run_job-finish.result in
    let τ = c.run_job-finish.new.store in
    let seen = served_view Reads bs j.numbers σ f τ c.run_job-finish.ensures in
    record {
      most = served_length Reads bs j.numbers σ f τ c.run_job-finish.ensures (omega arith) _ c.show_run-n.ensures.long;
      long = c.show_run-n.ensures.long ∙ ap length seen;
      ended =
          served_store Reads bs j.numbers σ f τ c.run_job-finish.ensures _ (ap (λ (g : Header). g.records.count) j.day.loads.numbers) _ c.end_job.ensures;
      written = c.show_run-n.ensures.written ∙ ap (λ (v : List ℕ). shown_at c.args.at v c.args.out.now) seen;
    }
