-- `quote::list_starts` meets its contract: what is left of the sweep makes the rest of the list.
use mathlib.Core.List.{List, ◌∷◌}
use mathlib.Core.Path.{◌≡◌, sym, ap, ◌∙◌}
use Prim.Native.Nat.{ℕ, ◌+◌}
use native.Mathlib.Omega.{arith}
use lib.ListN.{length}
use Rattle.decode.proofs.Sizes.{size_short}
use Rattle.model.specs.Decoding.{byte}
use Rattle.code_check.specs.Sweep.{starts}
use Rattle.code_check.proofs.Starts.{from, size_some, from_step, from_end}
use Rattle.quote.specs.Passes.{put}
use Rattle.quote.proofs.list_starts.Goals as goal

pub overflow_add-i : goal.overflow_add-i
overflow_add-i c = omega (arith, size_short (byte c.args.code.now c.loop-i.i))

pub loop-i-smaller : goal.loop-i-smaller
loop-i-smaller c = omega (arith, size_some (byte c.args.code.now c.loop-i.i))

pub loop-i-preserved : goal.loop-i-preserved
loop-i-preserved c =
    let code = c.args.code.now in
    let i = c.loop-i.i in
    let step : from code i ≡ i ∷ from code (i + c.size_of-i.result) =
    from_step code i c.loop-i-test.true ∙ ap (λ (k : ℕ). i ∷ from code (i + k)) (sym c.size_of-i.ensures) in
    record {
      few = omega (arith, size_some (byte code i));
      count = omega (arith, ap length step);
      rest = c.loop-i.invariant.rest ∙ ap (λ (is : List ℕ). put c.loop-i.n is c.loop-i.list) step;
    }

pub returns : goal.returns
unfolding starts
returns c =
    let none_left = from_end c.args.code.now c.loop-i.i c.loop-i-test.false in
    (omega (arith, ap length none_left), sym (c.loop-i.invariant.rest ∙ ap (λ (is : List ℕ). put c.loop-i.n is c.loop-i.list) none_left))
