-- Past the end stands 0, and an instruction is short.
use Rattle.std.proofs.Common.{◌≤◌, ◌<◌, length, arith, sym, le-ltb, ltb-true, ltb-false}
use lib.ListN.{get_or-eq_default}
use Rattle.model.specs.Decoding.{fetch, after, instrs}
use Rattle.decode.proofs.Sizes.{size_short}
use Rattle.decode.proofs.decode.Goals as goal

pub returns-in_default : goal.returns-in_default
unfolding fetch after instrs
returns-in_default c =
    let code = c.args.code.now in
    let h : length code ≤ c.args.pc = ltb-false c.args.pc (length code) (sym c.in_default.ensures.lookup.0) in
    rw (le-ltb c.args.pc (length code) h, get_or-eq_default code 0 h)

pub overflow_add-result : goal.overflow_add-result
overflow_add-result c =
    let short : c.size_of.result ≤ 20 = rw c.size_of.ensures (size_short _) in
    let inside : c.args.pc < length c.args.code.now = ltb-true _ _ (sym c.in-Some.ensures.lookup.0) in
    record { fits = omega (arith, short, inside, c.requires) }
