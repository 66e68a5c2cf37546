-- What an instruction makes of its operands: faults 20, 21, 22 and 29, in this order, or a request. Sees the script's part
-- of the state, label and clearance, and no record.
use Rattle.std.specs.Prelude.{Bool, true, false, cond, List, [], ◌∷◌, ℕ, ◌+◌, ◌-◌, ◌^◌, ◌%◌, leb, ltb, eqb, length, get_or}
use Rattle.labels.specs.declared.Label.{Label}
use Rattle.model.specs.State.{Control, Program, flows_in, number, with_stack, with_frames, push, jump, set_local}
use Rattle.model.specs.declared.Account.{Account}
use Rattle.model.specs.declared.Kind.{Kind}
use Rattle.model.specs.declared.Kind.TheVariants.{Sealed, Reference}
use Rattle.model.specs.declared.Datum.{Datum}
use Rattle.model.specs.declared.Datum.TheVariants.{Number, Label as Labelled, Handle}
use Rattle.model.specs.declared.Value.{Value}
use Rattle.model.specs.declared.Frame.{Frame}
use Rattle.model.specs.declared.Instr.{Instr}
use Rattle.model.specs.declared.Instr.TheVariants.{End, Push, Lab, Get, Set, Pop, Add, Sub, Less, Same, Jump, Ifz, Cur, Clr, Raise, Lower, Flows, Join, Meet, Seal, Open, Labof, New, Read, Write, Block, Try, Done, Throw, Input}

-- What is left to be done once the operands are taken. Thirty instructions, ten effects.
pub data Request : Type 0 where
  none : Request
  ends : Datum → Request
  throws : ℕ → Request
  raises lowers : Label → Request
  -- the label, or the contents, of the record at a place
  labels opens : ℕ → Request
  makes : Kind → Label → Datum → Request
  writes : ℕ → Datum → Request
  -- bound, target, steps, places
  blocks : Label → ℕ → ℕ → ℕ → Request

pub data Plan : Type 0 where
  faults : ℕ → Plan
  -- the script's part with the operands taken and the plain pushes made
  asks : Control → Request → Plan

-- ── operands: top of stack popped first ──

unfoldable pub pop_from : Control → List Value → (Datum → Control → Plan) → Plan
pop_from c [] k = faults 20
pop_from c (v ∷ s) k = k v.datum (with_stack s c)

unfoldable pub as_number : Datum → (ℕ → Plan) → Plan
as_number (Number n) k = k n
as_number d k = faults 22

unfoldable pub as_label : Datum → (Label → Plan) → Plan
as_label (Labelled l) k = k l
as_label d k = faults 22

unfoldable pub as_handle : Datum → (ℕ → Plan) → Plan
as_handle (Handle h p) k = k p
as_handle d k = faults 22

unfoldable pub as_sealed : Datum → (ℕ → Plan) → Plan
as_sealed (Handle Sealed p) k = k p
as_sealed d k = faults 22

unfoldable pub as_reference : Datum → (ℕ → Plan) → Plan
as_reference (Handle Reference p) k = k p
as_reference d k = faults 22

abbrev pub pop : Control → (Datum → Control → Plan) → Plan
pop c k = pop_from c c.stack k

abbrev pub pop_number : Control → (ℕ → Control → Plan) → Plan
pop_number c k = pop c (λ d r. as_number d (λ n. k n r))

abbrev pub pop_label : Control → (Label → Control → Plan) → Plan
pop_label c k = pop c (λ d r. as_label d (λ l. k l r))

-- how many values an instruction takes from the stack, and how many it leaves there
pub record Arity : Type 0 where
  pub takes : ℕ
  pub leaves : ℕ

abbrev pub arity_is : ℕ → ℕ → Arity
arity_is t l = record { takes = t; leaves = l }

-- TRY leaves nothing, and counts as two: its handler gets a code and a number
unfoldable pub arity : Instr → Arity
arity End = arity_is 1 0
arity (Push n) = arity_is 0 1
arity (Lab i) = arity_is 0 1
arity (Get i) = arity_is 0 1
arity (Set i) = arity_is 1 0
arity Pop = arity_is 1 0
arity Add = arity_is 2 1
arity Sub = arity_is 2 1
arity Less = arity_is 2 1
arity Same = arity_is 2 1
arity (Jump t) = arity_is 0 0
arity (Ifz t) = arity_is 1 0
arity Cur = arity_is 0 1
arity Clr = arity_is 0 1
arity Raise = arity_is 1 0
arity Lower = arity_is 1 0
arity Flows = arity_is 2 1
arity Join = arity_is 2 1
arity Meet = arity_is 2 1
arity Seal = arity_is 2 1
arity Open = arity_is 1 1
arity Labof = arity_is 1 1
arity New = arity_is 2 1
arity Read = arity_is 1 1
arity Write = arity_is 2 0
arity (Block t n k) = arity_is 1 1
arity (Try h) = arity_is 0 2
arity Done = arity_is 0 0
arity Throw = arity_is 1 0
arity (Input i) = arity_is 0 1

-- ── the instructions ──

abbrev pub pushes : Datum → Control → Plan
pushes d c = asks (push d c) none

-- 1 or 0
abbrev pub truth : Bool → Datum
truth true = Number 1
truth false = Number 0

-- the frame that TRY adds: "the clearance that stood at TRY" is kept in it
abbrev pub tried : ℕ → Account → Control → Frame
tried h a c = record { handler = h; height = length c.stack; clearance = a.clearance }

unfoldable pub drop_frame : Control → List Frame → Plan
drop_frame c [] = faults 29
drop_frame c (f ∷ fs) = asks (with_frames fs c) none

-- c has its pc behind the instruction already
unfoldable pub operate : Program → Account → Control → Instr → Plan
operate P a c End = pop c (λ d r. asks r (ends d))
operate P a c (Push n) = pushes (Number n) c
operate P a c (Lab i) = pushes (Labelled (P.labels i)) c
operate P a c (Get i) = pushes (get_or c.locals i (number 0)).datum c
operate P a c (Set i) = pop c (λ d r. asks (set_local i d r) none)
operate P a c Pop = pop c (λ d r. asks r none)
operate P a c Add = pop_number c (λ y r. pop_number r (λ x q. pushes (Number ((x + y) % 2 ^ 32)) q))
operate P a c Sub = pop_number c (λ y r. pop_number r (λ x q. pushes (Number ((x + 2 ^ 32 - y) % 2 ^ 32)) q))
operate P a c Less = pop_number c (λ y r. pop_number r (λ x q. pushes (truth (ltb x y)) q))
operate P a c Same = pop_number c (λ y r. pop_number r (λ x q. pushes (truth (eqb x y)) q))
operate P a c (Jump t) = asks (jump t c) none
operate P a c (Ifz t) = pop_number c (λ n r. asks (cond (eqb n 0) (jump t r) r) none)
operate P a c Cur = pushes (Labelled a.label) c
operate P a c Clr = pushes (Labelled a.clearance) c
operate P a c Raise = pop_label c (λ l r. asks r (raises l))
operate P a c Lower = pop_label c (λ l r. asks r (lowers l))
operate P a c Flows = pop_label c (λ m r. pop_label r (λ l q. pushes (truth (flows_in P l m)) q))
operate P a c Join = pop_label c (λ m r. pop_label r (λ l q. pushes (Labelled (P.join l m)) q))
operate P a c Meet = pop_label c (λ m r. pop_label r (λ l q. pushes (Labelled (P.meet l m)) q))
operate P a c Seal = pop_label c (λ l r. pop r (λ d q. asks q (makes Sealed l d)))
operate P a c Open = pop c (λ h r. as_sealed h (λ p. asks r (opens p)))
operate P a c Labof = pop c (λ h r. as_handle h (λ p. asks r (labels p)))
operate P a c New = pop_label c (λ l r. pop r (λ d q. asks q (makes Reference l d)))
operate P a c Read = pop c (λ h r. as_reference h (λ p. asks r (opens p)))
operate P a c Write = pop c (λ h r. pop r (λ d q. as_reference h (λ p. asks q (writes p d))))
operate P a c (Block t n k) = pop_label c (λ b r. asks r (blocks b t n k))
operate P a c (Try h) =
    cond (ltb (length c.frames) 8)
    (asks (with_frames (tried h a c ∷ c.frames) c) none)
    (faults 29)
operate P a c Done = drop_frame c c.frames
operate P a c Throw = pop_number c (λ n r. asks r (throws n))
operate P a c (Input i) = pushes (get_or P.inputs i (number 0)).datum c

-- 20: too few operands. 21: over 32 values once the instruction is done.
unfoldable pub plan : Program → Account → Control → Instr → Plan
plan P a c i =
    cond (leb (arity i).takes (length c.stack))
    (cond (leb (length c.stack - (arity i).takes + (arity i).leaves) 32) (operate P a c i) (faults 21))
    (faults 20)
