-- What a run starts from and what it leaves.
use Rattle.std.specs.Prelude.{◌≡◌, List, [], ℕ, replicate, None}
use Rattle.model.specs.declared.Value.{Value}
use Rattle.model.specs.State.{Control, Store, Outcome, Program, number}
use Rattle.model.specs.declared.Account.{Account}
use Rattle.operands.specs.Program.{program}
use Rattle.machine.specs.declared.State.{State}
use Rattle.machine.specs.declared.program.Program.{Program as Given}
use Rattle.model.specs.declared.Finished.{Finished}
use Rattle.machine.specs.State.{no_frame}

-- what a program of the code is to the definition
abbrev pub meant : Given → Program
meant p = program p.code.now p.labels.now p.records.now

-- ── the start ──

-- at pc, with these locals, an empty stack and no frames
abbrev pub begun : ℕ → List Value → Control
begun pc locals = record { pc = pc; stack = []; locals = locals; frames = [] }

abbrev pub fresh : ℕ → List Value → Account → State
fresh pc locals a =
    record {
      stack = replicate 32 (number 0);
      top = 32;
      locals = locals;
      frames = replicate 8 no_frame;
      newest = 8;
      label = a.label;
      clearance = a.clearance;
      steps = a.steps;
      next = a.next;
      limit = a.limit;
      depth = a.depth;
      pc = pc;
      ending = None;
    }

-- ── the end ──

-- what a run left, and the records, are those of an outcome
pub record Finishes (f : Finished) (σ : Store) (o : Outcome) : Type 0 where
  pub ending : o.ending ≡ f.ending
  pub label : o.account.label ≡ f.label
  pub clearance : o.account.clearance ≡ f.clearance
  pub steps : o.account.steps ≡ f.steps
  pub next : o.account.next ≡ f.next
  pub store : o.store ≡ σ
