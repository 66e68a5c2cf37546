-- What a run state of the code stands for, and what its methods make of it.
use Rattle.std.specs.Prelude.{◌≡◌, List, ℕ, ◌+◌, ◌-◌, ◌≤◌, min, length, get_or, set, drop}
use Rattle.std.specs.Prelude.{Option, None, Some, unwrap_or}
use Rattle.labels.specs.declared.Label.{Label}
use Rattle.labels.specs.Order.{join, no_label}
use Rattle.model.specs.declared.Datum.{Datum}
use Rattle.model.specs.declared.Value.{Value}
use Rattle.model.specs.declared.Frame.{Frame}
use Rattle.model.specs.declared.Ending.{Ending}
use Rattle.model.specs.declared.Ending.TheVariants.{Spent}
use Rattle.model.specs.State.{Control, Store, Outcome, number}
use Rattle.model.specs.declared.Account.{Account}
use Rattle.model.specs.Effects.{Next, go, stop}
use Rattle.machine.specs.declared.State.{State}

abbrev pub no_frame : Frame
no_frame = record { handler = 0; height = 0; clearance = no_label }

-- ── the invariant ──

pub record StackOk (top : ℕ) (stack : List Value) : Type 0 where
  pub index : top ≤ 32
  pub size : length stack ≡ 32

-- a handler's stack leaves room for the code and the number
pub record FramesOk (newest : ℕ) (frames : List Frame) : Type 0 where
  pub index : newest ≤ 8
  pub size : length frames ≡ 8
  pub low : (i : ℕ) → (get_or frames i no_frame).height ≤ 30

pub record PlacesOk (next limit : ℕ) : Type 0 where
  pub used : next ≤ limit
  pub most : limit ≤ 256

pub record Within (top newest : ℕ) (vs : List Value) (fs : List Frame) (ls : List Value) (next limit : ℕ) : Type 0 where
  pub stack : StackOk top vs
  pub frames : FramesOk newest fs
  pub locals : length ls ≡ 16
  pub places : PlacesOk next limit

abbrev pub Ok : State → Type 0
Ok s = Within s.top s.newest s.stack s.frames s.locals s.next s.limit

abbrev pub Live : State → Type 0
Live s = s.ending ≡ None

-- ── what a state stands for ──

abbrev pub control : State → Control
control s = record { pc = s.pc; stack = drop s.top s.stack; locals = s.locals; frames = drop s.newest s.frames }

-- the datum at a place of the stack's array
abbrev pub datum_at : State → ℕ → Datum
datum_at s i = (get_or s.stack i (number 0)).datum

abbrev pub account : State → Account
account s = record { label = s.label; clearance = s.clearance; steps = s.steps; next = s.next; limit = s.limit; depth = s.depth }

abbrev pub next_on : Option Ending → Control → Account → Store → Next
next_on None c a σ = go c a σ
next_on (Some e) c a σ = stop e a σ

abbrev pub next_of : State → Store → Next
next_of s σ = next_on s.ending (control s) (account s) σ

-- a run that was let go on for no step is spent
abbrev pub ending_of : Option Ending → Ending
ending_of e = unwrap_or e Spent

abbrev pub outcome_of : State → Store → Outcome
outcome_of s σ = record { ending = ending_of s.ending; account = account s; store = σ }

-- a state that stands, with the records σ, for what follows
pub record Ran (r : State) (σ : Store) (n : Next) : Type 0 where
  pub ok : Ok r
  pub eq : next_of r σ ≡ n

-- ── the methods, on the state's fields ──

abbrev pub popped : ℕ → State → State
popped k s =
    record {
      stack = s.stack;
      top = s.top + k;
      locals = s.locals;
      frames = s.frames;
      newest = s.newest;
      label = s.label;
      clearance = s.clearance;
      steps = s.steps;
      next = s.next;
      limit = s.limit;
      depth = s.depth;
      pc = s.pc;
      ending = s.ending;
    }

abbrev pub pushed : Value → State → State
pushed v s =
    record {
      stack = set s.stack (s.top - 1) v;
      top = s.top - 1;
      locals = s.locals;
      frames = s.frames;
      newest = s.newest;
      label = s.label;
      clearance = s.clearance;
      steps = s.steps;
      next = s.next;
      limit = s.limit;
      depth = s.depth;
      pc = s.pc;
      ending = s.ending;
    }

abbrev pub label_raised : Label → State → State
label_raised l s =
    record {
      stack = s.stack;
      top = s.top;
      locals = s.locals;
      frames = s.frames;
      newest = s.newest;
      label = join s.label l;
      clearance = s.clearance;
      steps = s.steps;
      next = s.next;
      limit = s.limit;
      depth = s.depth;
      pc = s.pc;
      ending = s.ending;
    }

abbrev pub charged : ℕ → State → State
charged n s =
    record {
      stack = s.stack;
      top = s.top;
      locals = s.locals;
      frames = s.frames;
      newest = s.newest;
      label = s.label;
      clearance = s.clearance;
      steps = s.steps - n;
      next = s.next;
      limit = s.limit;
      depth = s.depth;
      pc = s.pc;
      ending = s.ending;
    }

abbrev pub ended : Ending → State → State
ended e s =
    record {
      stack = s.stack;
      top = s.top;
      locals = s.locals;
      frames = s.frames;
      newest = s.newest;
      label = s.label;
      clearance = s.clearance;
      steps = s.steps;
      next = s.next;
      limit = s.limit;
      depth = s.depth;
      pc = s.pc;
      ending = Some e;
    }

-- the newest frame removed, the stack cut to its height, its clearance given back, code and number pushed
abbrev pub caught : Frame → ℕ → State → State
caught f n s =
    record {
      stack = s.stack;
      top = 32 - n;
      locals = s.locals;
      frames = s.frames;
      newest = s.newest + 1;
      label = s.label;
      clearance = f.clearance;
      steps = s.steps;
      next = s.next;
      limit = s.limit;
      depth = s.depth;
      pc = f.handler;
      ending = s.ending;
    }

abbrev pub handled : Frame → ℕ → ℕ → State → State
handled f code n s = pushed (number n) (pushed (number code) (caught f (min (32 - s.top) f.height) s))
