-- `day_turns::keep_job` meets its contract.
use Rattle.std.proofs.Common.{true, ap}
use Rattle.day_file.specs.declared.Header.{Header}
use Rattle.day.proofs.Views.{served_store}
use Rattle.day_turns.proofs.Keeping.{shown_same}
use Rattle.day_turns.proofs.keep_job.Goals as goal

pub returns : goal.returns
returns c =
    let j = c.args.job in
    record {
      turn = shown_same j.day.file.now j.numbers c.args.store.now c.run_job-finish.result c.run_job-finish.new.store c.run_job-finish.ensures;
      ended =
          served_store (λ _. true) j.day.file.now j.numbers c.args.store.now c.run_job-finish.result c.run_job-finish.new.store c.run_job-finish.ensures
          _ (ap (λ (g : Header). g.records.count) j.day.loads.numbers) _ c.end_job.ensures;
    }
