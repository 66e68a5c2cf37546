-- The opcodes that no arm names have no operands.
use Rattle.std.proofs.Common.{sym, arith}
use Rattle.decode.proofs.Sizes.{size_else}
use Rattle.decode.proofs.size_of.Goals as goal

pub returns-in_default : goal.returns-in_default
returns-in_default c = sym (size_else c.args.op (grind arith))
