-- One instruction taken off the sweep.
use Rattle.std.proofs.Common.{List, ℕ, sym, ap, ◌∙◌, arith}
use Rattle.model.specs.Decoding.{byte}
use Rattle.code_check.specs.Sweep.{starts, last_of}
use Rattle.code_check.specs.Marks.{mark}
use Rattle.decode.proofs.Sizes.{size_short}
use Rattle.code_check.proofs.Starts.{size_some, from_step, from_end}
use Rattle.code_check.proofs.mark_starts.Goals as goal

pub overflow_add-i : goal.overflow_add-i
overflow_add-i c = record { fits = omega (arith, c.loop-i-test.true, c.requires, c.size_of-i.ensures, size_short (byte c.args.code.now c.loop-i.i)) }

pub loop-i-smaller : goal.loop-i-smaller
loop-i-smaller c = omega (arith, c.loop-i-test.true, c.size_of-i.ensures, size_some (byte c.args.code.now c.loop-i.i))

pub loop-i-preserved : goal.loop-i-preserved
loop-i-preserved c =
    let code = c.args.code.now in
    let i = c.loop-i.i in
    let step = from_step code i c.loop-i-test.true in
    rw c.size_of-i.ensures
    (c.loop-i.invariant.0 ∙ ap (λ (is : List ℕ). mark is c.loop-i.marks) step, c.loop-i.invariant.1 ∙ ap (last_of c.loop-i.last) step)

pub returns : goal.returns
unfolding starts
returns c =
    let none_left = from_end c.args.code.now c.loop-i.i c.loop-i-test.false in
    (sym (c.loop-i.invariant.1 ∙ ap (last_of c.loop-i.last) none_left), sym (c.loop-i.invariant.0 ∙ ap (λ (is : List ℕ). mark is c.loop-i.marks) none_left))
