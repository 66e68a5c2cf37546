-- `quote::quote_code`: what is done so far, and what is left.
use Rattle.std.proofs.Common.{◌-◌, length}
use Rattle.quote.proofs.Pass.{Pass}
use Rattle.quote.proofs.quote_code.Given as goal

abbrev pub invariant-loop-start : goal.invariant-loop-start
invariant-loop-start l = Pass l.code l.figures l.next (l.n - length l.yielded)
