-- The first instruction that fails a test stops the whole; else what is left of the sweep decides.
use Rattle.std.proofs.Common.{sym, ap, ◌∙◌, arith}
use Rattle.code_check.specs.Sweep.{starts, all, instr_ok}
use Rattle.code_check.proofs.Starts.{from_end, goes_ahead, unknown_stops, cut_stops, operands_stop, goes_on}
use Rattle.code_check.proofs.instrs_ok.Goals as goal

pub returns-then-not-known : goal.returns-then-not-known
unfolding starts
returns-then-not-known c =
    unknown_stops c.args.labels c.args.inputs c.args.code.now c.loop-i.i c.loop-i-test.true (sym c.known.ensures ∙ c.if-not-known.true)
    ∙ sym c.loop-i.invariant

pub returns-then-code-after : goal.returns-then-code-after
unfolding starts
returns-then-code-after c =
    cut_stops c.args.labels c.args.inputs c.args.code.now c.loop-i.i c.loop-i-test.true (sym c.known.ensures ∙ c.if-not-known.false)
    (rw c.decode-instr.ensures at c.if-code-after.true)
    ∙ sym c.loop-i.invariant

pub returns-then-not-operands_ok : goal.returns-then-not-operands_ok
unfolding starts
returns-then-not-operands_ok c =
    operands_stop c.args.labels c.args.inputs c.args.code.now c.loop-i.i c.loop-i-test.true (sym c.known.ensures ∙ c.if-not-known.false)
    (rw c.decode-instr.ensures at c.if-code-after.false)
    (rw c.decode-instr.ensures at (sym (c.operands_ok.ensures.by (starts c.args.code.now) c.requires.1) ∙ c.if-not-operands_ok.true))
    ∙ sym c.loop-i.invariant

pub loop-i-smaller : goal.loop-i-smaller
loop-i-smaller c =
    let ahead = goes_ahead c.args.labels c.args.inputs c.args.code.now c.loop-i.i c.loop-i-test.true in
    rw c.decode-instr.ensures (omega (arith, ahead, c.loop-i-test.true))

pub loop-i-preserved : goal.loop-i-preserved
loop-i-preserved c =
    rw c.decode-instr.ensures
    (c.loop-i.invariant
    ∙ goes_on c.args.labels c.args.inputs c.args.code.now c.loop-i.i c.loop-i-test.true (sym c.known.ensures ∙ c.if-not-known.false)
    (rw c.decode-instr.ensures at c.if-code-after.false)
    (rw c.decode-instr.ensures at (sym (c.operands_ok.ensures.by (starts c.args.code.now) c.requires.1) ∙ c.if-not-operands_ok.false)))

pub returns : goal.returns
unfolding starts
returns c =
    sym (c.loop-i.invariant
    ∙ ap (all (instr_ok c.args.labels c.args.inputs c.args.code.now)) (from_end c.args.code.now c.loop-i.i c.loop-i-test.false))
