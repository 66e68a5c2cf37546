-- The number so far is cut to six digits.
use Rattle.std.proofs.Common.{◌<◌}
use Rattle.load_cases.proofs.decimal.Given as goal

abbrev pub invariant-loop-b : goal.invariant-loop-b
invariant-loop-b l = l.n < 1000000
