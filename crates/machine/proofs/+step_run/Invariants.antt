-- The measures of `State::step` and `run`, and what `step`'s loop keeps: what is left to do comes to what was to do.
use Rattle.std.proofs.Common.{◌+◌}
use Rattle.machine.proofs.Loop.{Held}
use Rattle.machine.proofs.+step_run.Given as goal

abbrev pub decreases-State::step : goal.decreases-State::step
decreases-State::step l = l.self.steps + l.self.steps

abbrev pub decreases-run : goal.decreases-run
decreases-run l = l.a.steps + l.a.steps + 1

abbrev pub invariant-State::step-loop : goal.invariant-State::step-loop
invariant-State::step-loop l = Held l.program l.fn.self l.fn.store l.fn.count l.self l.store l.counter
