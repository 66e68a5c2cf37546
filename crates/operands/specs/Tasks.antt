-- What the code makes of an instruction's operands, as far as they are numbers: a decision, or a task for `effects`. These
-- follow the code; `decision_performs` (effects/proofs/Bridge) ties them to the machine's definition.
use Rattle.std.specs.Prelude.{ℕ, ◌+◌, ◌-◌, ◌*◌, ◌%◌, ◌^◌, Bool, true, false, cond, List, None, ◌==◌, nat_lt}
use Rattle.labels.specs.declared.Label.{Label}
use Rattle.labels.specs.Order.{flows, no_label}
use Rattle.model.specs.Decoding.{byte}
use Rattle.model.specs.Inputs.{kind_of}
use Rattle.model.specs.declared.Kind.TheVariants.{Sealed, Reference}
use Rattle.model.specs.declared.Datum.{Datum}
use Rattle.model.specs.declared.Datum.TheVariants.{Number, Label as Labelled, Handle}
use Rattle.model.specs.declared.Instr.{Instr}
use Rattle.model.specs.declared.Instr.TheVariants.{End, Push, Lab, Get, Set, Pop, Add, Sub, Less, Same, Jump, Ifz, Cur, Clr, Raise, Lower, Flows, Join, Meet, Seal, Open, Labof, New, Read, Write, Block, Try, Done, Throw, Input}
use Rattle.operands.specs.declared.Origin.TheVariants.{File, Current, Clearance}
use Rattle.operands.specs.declared.Both.TheVariants.{Join as JoinOf, Meet as MeetOf}
use Rattle.operands.specs.declared.Effect.{Effect}
use Rattle.operands.specs.declared.Effect.TheVariants.{Fault, Drop, Jump as Jumps, Number as Gives, Handle as GivesHandle, Label as GivesLabel, Pair as GivesPair, Get as Gets, Set as Sets, Try as Tries, Done as Leaves, End as Ends}
use Rattle.operands.specs.declared.Decision.{Decision}
use Rattle.operands.specs.declared.Arith.{Arith}
use Rattle.operands.specs.declared.Arith.TheVariants.{Add as Adds, Sub as Subs, Less as Lesser, Same as Equal}
use Rattle.operands.specs.declared.Test.{Test}
use Rattle.operands.specs.declared.Test.TheVariants.{Branch, Throw as Throws}
use Rattle.operands.specs.declared.Pair.{Pair}
use Rattle.operands.specs.declared.Pair.TheVariants.{Flows as Flowing, Join as Joining, Meet as Meeting}
use Rattle.operands.specs.declared.NumberTask.{NumberTask}
use Rattle.operands.specs.declared.NumberTask.TheVariants.{Test as OnOne, Arith as OnTwo}
use Rattle.operands.specs.declared.OnLabel.TheVariants.{Raise as Raises, Lower as Lowers, Make as Makes, Block as Blocks}
use Rattle.operands.specs.declared.OnHandle.TheVariants.{Open as Opens, Label as LabelOf, Write as Writes}
use Rattle.operands.specs.declared.LabelTask.TheVariants.{Pair as OnPair, Label as OnLabel, Handle as OnHandle}
use Rattle.operands.specs.declared.Task.{Task}
use Rattle.operands.specs.declared.Task.TheVariants.{Do, Numbers, Labels}
use Rattle.operands.specs.Program.{count}

abbrev pub decided : ℕ → Effect → Decision
decided k e = record { takes = k; effect = e }

-- a fault that raises no label
abbrev pub thrown : ℕ → ℕ → Decision
thrown code n = decided 0 (Fault None code n)

abbrev pub faulty : ℕ → Decision
faulty code = thrown code 0

-- ── numbers: 22 where an operand is another ──

abbrev pub on_number : Datum → (ℕ → Decision) → Decision
on_number (Number n) k = k n
on_number (Labelled l) k = faulty 22
on_number (Handle h p) k = faulty 22

-- 1 or 0, for two operands
abbrev pub bit_of : Bool → Decision
bit_of true = decided 2 (Gives 1)
bit_of false = decided 2 (Gives 0)

abbrev pub arith_of : Arith → ℕ → ℕ → Decision
arith_of Adds y x = decided 2 (Gives ((x + y) % 2 ^ 32))
arith_of Subs y x = decided 2 (Gives ((x + 2 ^ 32 - y) % 2 ^ 32))
arith_of Lesser y x = bit_of (nat_lt x y)
arith_of Equal y x = bit_of (x == y)

abbrev pub numbers_of : Arith → Datum → Datum → Decision
numbers_of f y x = on_number y (λ b. on_number x (λ a. arith_of f b a))

abbrev pub test_of : Test → ℕ → Decision
test_of (Branch t) n = cond (n == 0) (decided 1 (Jumps t)) (decided 1 Drop)
test_of Throws n = thrown 30 n

abbrev pub number_of : Test → Datum → Decision
number_of f y = on_number y (test_of f)

abbrev pub on_numbers : NumberTask → Datum → Datum → Decision
on_numbers (OnOne f) y x = number_of f y
on_numbers (OnTwo f) y x = numbers_of f y x

-- ── two labels ──

abbrev pub label_of : Datum → Label
label_of (Number n) = no_label
label_of (Labelled l) = l
label_of (Handle h p) = no_label

abbrev pub pair_of : Pair → Label → Label → Decision
pair_of Flowing m l = bit_of (flows l m)
pair_of Joining m l = decided 2 (GivesPair JoinOf)
pair_of Meeting m l = decided 2 (GivesPair MeetOf)

abbrev if_label : Datum → (Label → Decision) → Decision
if_label (Number n) k = faulty 22
if_label (Labelled l) k = k l
if_label (Handle h p) k = faulty 22

abbrev pub labels_of : Pair → Datum → Datum → Decision
labels_of f y x = if_label y (λ m. if_label x (λ l. pair_of f m l))

-- ── the instructions: h values are on the stack, f frames are held ──

-- 20
abbrev pub short_of : ℕ → ℕ → Task → Task
short_of h k p = cond (nat_lt h k) (Do (faulty 20)) p

-- 21
abbrev pub push_of : ℕ → Effect → Task
push_of h e = cond (nat_lt 31 h) (Do (faulty 21)) (Do (decided 0 e))

abbrev pub try_of : ℕ → ℕ → ℕ → Task
try_of h f t = cond (nat_lt 30 h) (Do (faulty 21)) (cond (nat_lt f 8) (Do (decided 0 (Tries t))) (Do (faulty 29)))

abbrev pub done_of : ℕ → Task
done_of f = cond (f == 0) (Do (faulty 29)) (Do (decided 0 Leaves))

abbrev pub input_of : List ℕ → ℕ → Effect
input_of rs i = cond (nat_lt i (count rs)) (GivesHandle (kind_of (byte rs (6 * i))) i) (Gives 0)

unfoldable pub task_of : Instr → ℕ → ℕ → List ℕ → Task
task_of End h f rs = short_of h 1 (Do (decided 1 Ends))
task_of (Push n) h f rs = push_of h (Gives n)
task_of (Lab i) h f rs = push_of h (GivesLabel (File i))
task_of (Get i) h f rs = push_of h (Gets i)
task_of (Set i) h f rs = short_of h 1 (Do (decided 1 (Sets i)))
task_of Pop h f rs = short_of h 1 (Do (decided 1 Drop))
task_of Add h f rs = short_of h 2 (Numbers (OnTwo Adds))
task_of Sub h f rs = short_of h 2 (Numbers (OnTwo Subs))
task_of Less h f rs = short_of h 2 (Numbers (OnTwo Lesser))
task_of Same h f rs = short_of h 2 (Numbers (OnTwo Equal))
task_of (Jump t) h f rs = Do (decided 0 (Jumps t))
task_of (Ifz t) h f rs = short_of h 1 (Numbers (OnOne (Branch t)))
task_of Cur h f rs = push_of h (GivesLabel Current)
task_of Clr h f rs = push_of h (GivesLabel Clearance)
task_of Raise h f rs = short_of h 1 (Labels (OnLabel Raises))
task_of Lower h f rs = short_of h 1 (Labels (OnLabel Lowers))
task_of Flows h f rs = short_of h 2 (Labels (OnPair Flowing))
task_of Join h f rs = short_of h 2 (Labels (OnPair Joining))
task_of Meet h f rs = short_of h 2 (Labels (OnPair Meeting))
task_of Seal h f rs = short_of h 2 (Labels (OnLabel (Makes Sealed)))
task_of Open h f rs = short_of h 1 (Labels (OnHandle (Opens Sealed)))
task_of Labof h f rs = short_of h 1 (Labels (OnHandle LabelOf))
task_of New h f rs = short_of h 2 (Labels (OnLabel (Makes Reference)))
task_of Read h f rs = short_of h 1 (Labels (OnHandle (Opens Reference)))
task_of Write h f rs = short_of h 2 (Labels (OnHandle Writes))
task_of (Block t n k) h f rs = short_of h 1 (Labels (OnLabel (Blocks t n k)))
task_of (Try t) h f rs = try_of h f t
task_of Done h f rs = done_of f
task_of Throw h f rs = short_of h 1 (Numbers (OnOne Throws))
task_of (Input i) h f rs = push_of h (input_of rs i)
