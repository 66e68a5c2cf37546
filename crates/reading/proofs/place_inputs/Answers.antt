-- Each six bytes are the next input record.
use mathlib.Core.Path.{◌∙◌}
use native.Mathlib.Omega.{arith}
use Rattle.reading.proofs.Placing.{place_start, place_one, place_end}
use Rattle.reading.proofs.place_inputs.Goals as goal

pub loop-i-init : goal.loop-i-init
loop-i-init c =
    rw (c.into_iter-i-iterator.ensures.into_iter_gives, c.enumerate-i-items.ensures.source, c.enumerate-i-items.ensures.count, c.chunks_exact.ensures.rest, c.requires.1)
    (c.chunks_exact.ensures.size, place_start _ _ c.requires.0)

pub loop-i-preserved : goal.loop-i-preserved
loop-i-preserved c =
    let s = c.in-Some.ensures.steps in
    let six = s.0.1.1 ∙ c.loop-i.invariant.0 in
    (s.0.0 ∙ c.loop-i.invariant.0, rw (s.1, s.2, c.input_record.ensures) (place_one _ _ c.requires.0 _ _ _ _ _ c.loop-i.invariant.1 s.0.1.0 six))

pub returns : goal.returns
returns c = place_end _ _ c.requires.0 _ _ _ c.loop-i.invariant.1 (let s = c.in-None.ensures.steps in omega (arith, s.0.1.0, c.loop-i.invariant.0))
