-- The marks are those of the starts.
use Rattle.std.proofs.Common.{arith}
use Rattle.code_check.proofs.Starts.{starts_marked}
use Rattle.code_check.proofs.code_ok.Goals as goal

pub instrs_ok-requires : goal.instrs_ok-requires
instrs_ok-requires c = (omega (arith, c.requires), starts_marked c.args.code.now 4096 c.requires _ c.mark_starts-last.ensures.1)
