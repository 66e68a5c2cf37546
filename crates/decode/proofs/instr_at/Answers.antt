-- An opcode that no arm names is 30 or more.
use Rattle.std.proofs.Common.{sym}
use lib.ListN.{get_or-eq_default}
use Rattle.decode.proofs.Beyond.{beyond}
use Rattle.model.specs.declared.Instr.TheVariants.{End}
use Rattle.model.specs.Decoding.{instrs}
use Rattle.decode.proofs.instr_at.Goals as goal

pub returns-in_default : goal.returns-in_default
unfolding instrs
returns-in_default c =
    sym (get_or-eq_default (instrs c.args.code.now c.args.i) End {n = c.args.op} (beyond 30 c.args.op (search)))
