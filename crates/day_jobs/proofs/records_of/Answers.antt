-- `day_jobs::records_of` meets its contract.
use Rattle.std.proofs.Common.{arith}
use Rattle.day_jobs.proofs.Jobs.{ordered, records_are, records_length, records_short}
use Rattle.day_jobs.proofs.records_of.Goals as goal

pub slice_bounds-result-count : goal.slice_bounds-result-count
slice_bounds-result-count c = omega (arith, (ordered c.args.day.loads).jobs)

pub slice_bounds-result-start : goal.slice_bounds-result-start
slice_bounds-result-start c = omega (arith, (ordered c.args.day.loads).jobs)

pub slice_bounds-result-end : goal.slice_bounds-result-end
slice_bounds-result-end c = omega (arith, (ordered c.args.day.loads).code, (ordered c.args.day.loads).whole)

pub returns : goal.returns
returns c = record { are = records_are c.args.day.loads; long = records_length c.args.day.loads; short = records_short c.args.day.loads }
