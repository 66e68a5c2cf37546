-- Running: "a run has an operand stack of 32 values and 16 locals, up to 8 try frames, label, clearance, steps and
-- places left". The state in three parts, by who may touch it: the script's own, the account, the store.
use Rattle.std.specs.Prelude.{Bool, cond, List, ◌∷◌, ℕ, get_or, set, Option, None, Some}
use Rattle.labels.specs.Order.{flows_by}
use Rattle.labels.specs.declared.Label.{Label}
use Rattle.model.specs.declared.Datum.{Datum}
use Rattle.model.specs.declared.Datum.TheVariants.{Number}
use Rattle.model.specs.declared.Value.{Value}
use Rattle.model.specs.declared.Record.{Record}
use Rattle.model.specs.declared.Frame.{Frame}
use Rattle.model.specs.declared.Instr.{Instr}
use Rattle.model.specs.declared.Ending.{Ending}
use Rattle.model.specs.declared.Account.{Account}

-- ── the script's own part ──

pub record Control : Type 0 where
  pub pc : ℕ
  -- top first
  pub stack : List Value
  pub locals : List Value
  -- newest first
  pub frames : List Frame

abbrev pub value : Datum → Value
value d = record { datum = d }

abbrev pub number : ℕ → Value
number n = value (Number n)

abbrev pub with_stack : List Value → Control → Control
with_stack s c = record { pc = c.pc; stack = s; locals = c.locals; frames = c.frames }

abbrev pub with_frames : List Frame → Control → Control
with_frames fs c = record { pc = c.pc; stack = c.stack; locals = c.locals; frames = fs }

abbrev pub push : Datum → Control → Control
push d c = with_stack (value d ∷ c.stack) c

abbrev pub jump : ℕ → Control → Control
jump t c = record { pc = t; stack = c.stack; locals = c.locals; frames = c.frames }

abbrev pub set_local : ℕ → Datum → Control → Control
set_local i d c = record { pc = c.pc; stack = c.stack; locals = set c.locals i (value d); frames = c.frames }

-- ── the account: `Account`, declared in src/lib.rt, with what is meant by places left ──

abbrev pub with_label : Label → Account → Account
with_label l a = record { label = l; clearance = a.clearance; steps = a.steps; next = a.next; limit = a.limit; depth = a.depth }

abbrev pub with_clearance : Label → Account → Account
with_clearance l a = record { label = a.label; clearance = l; steps = a.steps; next = a.next; limit = a.limit; depth = a.depth }

abbrev pub with_steps : ℕ → Account → Account
with_steps n a = record { label = a.label; clearance = a.clearance; steps = n; next = a.next; limit = a.limit; depth = a.depth }

abbrev pub with_next : ℕ → Account → Account
with_next n a = record { label = a.label; clearance = a.clearance; steps = a.steps; next = n; limit = a.limit; depth = a.depth }

-- ── the store ──

-- a place of the store: a record, or none
abbrev pub Slot : Type 0
Slot = Option Record

abbrev pub Store : Type 0
Store = List Slot

abbrev pub at : Store → ℕ → Slot
at σ p = get_or σ p None

-- a place as an observer is shown it: a record whose label is not among those that it sees is not there
unfoldable pub shown : (Label → Bool) → Slot → Slot
shown Sees None = None
shown Sees (Some r) = cond (Sees r.label) (Some r) None

-- ── what a run is made under, and how it ends ──

-- The order of labels, the code, the file's labels and the handles of its input records. The order is a parameter: all
-- that is shown of the machine is shown for any order with the laws that it names.
pub record Program : Type 0 where
  -- which half keeps one label from flowing to another: 0 none, 1 secrecy, 2 integrity, 3 both
  pub flow_test : Label → Label → ℕ
  pub join : Label → Label → Label
  pub meet : Label → Label → Label
  pub fetch : ℕ → Instr
  -- where the instruction behind the one at a place starts
  pub after : ℕ → ℕ
  pub labels : ℕ → Label
  pub inputs : List Value

-- by the program's order, one label flows to another
abbrev pub flows_in : Program → Label → Label → Bool
flows_in P = flows_by P.flow_test

pub record Outcome : Type 0 where
  pub ending : Ending
  pub account : Account
  pub store : Store

-- A run from a state to its end
abbrev pub Runner : Type 0
Runner = Control → Account → Store → Outcome
