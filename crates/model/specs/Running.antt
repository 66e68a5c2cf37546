-- One instruction, and a run.
use Rattle.std.specs.Prelude.{List, [], ◌++◌, ℕ, zero, suc, ◌-◌, length, replicate, None}
use Rattle.labels.specs.Order.{flow_test, join, meet}
use Rattle.labels.specs.declared.Label.{Label}
use Rattle.model.specs.State.{Control, Store, Program, Outcome, Runner, number, jump, with_steps}
use Rattle.model.specs.declared.Account.{Account}
use Rattle.model.specs.Decoding.{fetch, after}
use Rattle.model.specs.Operands.{Plan, faults, asks, plan}
use Rattle.model.specs.Effects.{Next, go, stop, fail, act}
use Rattle.model.specs.Inputs.{Input, handles}
use Rattle.model.specs.declared.Ending.TheVariants.{Spent}

unfoldable pub perform : Program → Runner → Control → Account → Store → Plan → Next
perform P R c a σ (faults code) = fail code 0 c a σ
perform P R c a σ (asks r q) = act P R c r a σ q

-- One instruction, its step paid. R runs the bodies of blocks.
unfoldable pub step : Program → Runner → Control → Account → Store → Next
step P R c a σ =
    perform P R (jump (P.after c.pc) c) a σ (plan P a (jump (P.after c.pc) c) (P.fetch c.pc))

unfoldable pub resume : Runner → Next → Outcome
resume R (go c a σ) = R c a σ
resume R (stop e a σ) = record { ending = e; account = a; store = σ }

-- "With none left before an instruction, the run ends spent." Each instruction is 1 step.
unfoldable pub pay : ℕ → Account → Store → (Account → Outcome) → Outcome
pay zero a σ k = record { ending = Spent; account = a; store = σ }
pay (suc n) a σ k = k (with_steps n a)

-- f bounds the instructions; from the steps left on it makes no difference
unfoldable pub run : Program → ℕ → Runner
run P zero c a σ = record { ending = Spent; account = a; store = σ }
run P (suc f) c a σ = pay a.steps a σ (λ b. resume (run P f) (step P (run P f) c b σ))

unfoldable pub runs : Program → Runner
runs P c a σ = run P a.steps c a σ

-- ── the start ──

-- a file's program: its code, its labels and its input records. The order is that of labels.
abbrev pub program_of : List ℕ → (ℕ → Label) → List Input → Program
program_of code ls xs =
    record { flow_test = flow_test; join = join; meet = meet; fetch = fetch code; after = after code; labels = ls; inputs = handles 0 xs }

abbrev pub start_control : Control
start_control = record { pc = 0; stack = []; locals = replicate 16 (number 0); frames = [] }

-- of the starting label and clearance, the steps, the number of input records and the places
abbrev pub start_account : Label → Label → ℕ → ℕ → ℕ → Account
start_account l c s n k = record { label = l; clearance = c; steps = s; next = n; limit = k; depth = 0 }

-- The input records, each in the place of its index; the other places of the store, 256 in all, are empty. How many of
-- them a run may fill is its account's limit.
unfoldable pub start_store : Store → Store
start_store σ = σ ++ replicate (256 - length σ) None
