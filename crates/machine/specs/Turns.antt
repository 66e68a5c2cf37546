-- Instructions one after the other.
use Rattle.std.specs.Prelude.{Bool, false, cond, List, ℕ, zero, suc, ◌-◌, ltb, is_none}
use Rattle.model.specs.declared.Instr.{Instr}
use Rattle.model.specs.State.{Program, Store, with_steps}
use Rattle.model.specs.Effects.{Next, go, stop}
use Rattle.model.specs.Running.{step, runs}
use Rattle.operands.specs.declared.Decision.{Decision}
use Rattle.operands.specs.Tasks.{task_of}
use Rattle.effects.specs.Decisions.{decision_of}
use Rattle.machine.specs.declared.State.{State}
use Rattle.machine.specs.State.{account, datum_at}

-- whether a run goes on
abbrev pub ready_of : State → Bool
ready_of s = cond (is_none s.ending) (ltb 0 s.steps) false

-- what an instruction comes to, the two values on top being looked for at the places f and g
abbrev pub decided : Instr → ℕ → ℕ → List ℕ → State → Store → Decision
decided i f g rs s σ =
    decision_of (task_of i (32 - s.top) (8 - s.newest) rs) (datum_at s f) (datum_at s g) (account s) σ

module _ (P : Program) where
  -- up to n of the definition's steps, each paid: as far as the run's end, or the last step that is left
  abbrev pub turns : ℕ → Next → Next
  turns zero x = x
  turns (suc n) (stop e a σ) = stop e a σ
  turns (suc n) (go c a σ) =
      cond (ltb 0 a.steps)
      (turns n (step P (runs P) c (with_steps (a.steps - 1) a) σ))
      (go c a σ)
