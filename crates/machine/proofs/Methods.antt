-- The run state's methods, on what a state stands for.
use Rattle.std.specs.Prelude.{Option}
use mathlib.Core.Bool.{Bool, true, false, cond}
use mathlib.Core.Path.{◌≡◌, refl, sym, ap, ◌∙◌}
use mathlib.Core.List.{List, ◌∷◌}
use Prim.Native.Nat.{ℕ, suc, ◌+◌, ◌-◌, min, ◌≤◌, ◌<◌}
use native.Mathlib.Omega.{arith}
use lib.Dec.{ltb}
use borrow.Author.Tests.{ltb-true, ltb-false}
use lib.ListN.{length, get_or, set, drop, length-set, length-drop, get_or-eq_default}
use lib.Seq.{drop-drop, get_or-drop}
use Rattle.labels.specs.declared.Label.{Label}
use Rattle.model.specs.declared.Datum.TheVariants.{Number}
use Rattle.model.specs.declared.Value.{Value}
use Rattle.model.specs.declared.Frame.{Frame}
use Rattle.model.specs.declared.Ending.{Ending}
use Rattle.model.specs.State.{Control, Store, number, push, with_frames}
use Rattle.model.specs.Operands.{tried}
use Rattle.model.specs.Effects.{go}
use Rattle.effects.proofs.Taking.{less, Bounded, Fits}
use Rattle.effects.proofs.Popping.{Tops}
use Rattle.machine.specs.declared.State.{State}
use Rattle.machine.proofs.Stack.{drop_set, all_set}
use Rattle.values.specs.Present.{present_of}
use Rattle.machine.specs.State.{no_frame, Ok, Live, control, account, next_on, next_of, popped, pushed}

-- ── stores to the state's fields ──

abbrev pub relabelled : Label → State → State
relabelled l s = record { stack = s.stack; top = s.top; locals = s.locals; frames = s.frames; newest = s.newest; label = l; clearance = s.clearance; steps = s.steps; next = s.next; limit = s.limit; depth = s.depth; pc = s.pc; ending = s.ending }

abbrev pub lowered : Label → State → State
lowered l s = record { stack = s.stack; top = s.top; locals = s.locals; frames = s.frames; newest = s.newest; label = s.label; clearance = l; steps = s.steps; next = s.next; limit = s.limit; depth = s.depth; pc = s.pc; ending = s.ending }

abbrev pub taken : ℕ → State → State
taken n s = record { stack = s.stack; top = s.top; locals = s.locals; frames = s.frames; newest = s.newest; label = s.label; clearance = s.clearance; steps = s.steps; next = s.next + n; limit = s.limit; depth = s.depth; pc = s.pc; ending = s.ending }

abbrev pub jumped : ℕ → State → State
jumped t s = record { stack = s.stack; top = s.top; locals = s.locals; frames = s.frames; newest = s.newest; label = s.label; clearance = s.clearance; steps = s.steps; next = s.next; limit = s.limit; depth = s.depth; pc = t; ending = s.ending }

abbrev kept : ℕ → Value → State → State
kept i v s = record { stack = s.stack; top = s.top; locals = set s.locals i v; frames = s.frames; newest = s.newest; label = s.label; clearance = s.clearance; steps = s.steps; next = s.next; limit = s.limit; depth = s.depth; pc = s.pc; ending = s.ending }

abbrev pub with_locals : List Value → State → State
with_locals ls s = record { stack = s.stack; top = s.top; locals = ls; frames = s.frames; newest = s.newest; label = s.label; clearance = s.clearance; steps = s.steps; next = s.next; limit = s.limit; depth = s.depth; pc = s.pc; ending = s.ending }

-- the frame that TRY stores
abbrev new_frame : ℕ → State → Frame
new_frame h s = record { handler = h; height = 32 - s.top; clearance = s.clearance }

abbrev pub framed : ℕ → State → State
framed h s = record { stack = s.stack; top = s.top; locals = s.locals; frames = set s.frames (s.newest - 1) (new_frame h s); newest = s.newest - 1; label = s.label; clearance = s.clearance; steps = s.steps; next = s.next; limit = s.limit; depth = s.depth; pc = s.pc; ending = s.ending }

abbrev pub unframed : State → State
unframed s = record { stack = s.stack; top = s.top; locals = s.locals; frames = s.frames; newest = s.newest + 1; label = s.label; clearance = s.clearance; steps = s.steps; next = s.next; limit = s.limit; depth = s.depth; pc = s.pc; ending = s.ending }

-- ── what they do ──

pub ok_popped : (k : ℕ) (s : State) → Ok s → s.top + k ≤ 32 → Ok (popped k s)
ok_popped k s o h = record { stack = record { index = h; size = o.stack.size }; frames = o.frames; locals = o.locals; places = o.places }

pub control_popped : (k : ℕ) (s : State) → control (popped k s) ≡ less k (control s)
control_popped k s = ap (λ (l : List Value). let c : Control = record { pc = s.pc; stack = l; locals = s.locals; frames = drop s.newest s.frames } in c) (sym (drop-drop k s.top s.stack))

pub ok_pushed : (v : Value) (s : State) → Ok s → 0 < s.top → Ok (pushed v s)
ok_pushed v s o h = record { stack = record { index = let d = o.stack.index in omega arith; size = length-set s.stack (s.top - 1) v ∙ o.stack.size }; frames = o.frames; locals = o.locals; places = o.places }

pub control_pushed : (v : Value) (s : State) → Ok s → 0 < s.top → control (pushed v s) ≡ push v.datum (control s)
control_pushed v s o h =
    let i : s.top - 1 + 1 ≡ s.top = omega arith in
    let d = o.stack.index in
    let z = o.stack.size in
    ap (λ (l : List Value). let c : Control = record { pc = s.pc; stack = l; locals = s.locals; frames = drop s.newest s.frames } in c) (drop_set s.stack (s.top - 1) v (omega arith) ∙ ap (λ (j : ℕ). v ∷ drop j s.stack) i)

pub ok_kept : (i : ℕ) (v : Value) (s : State) → Ok s → Ok (kept i v s)
ok_kept i v s o = record { stack = o.stack; frames = o.frames; locals = length-set s.locals i v ∙ o.locals; places = o.places }

pub stack_length : (s : State) → Ok s → s.top + length (drop s.top s.stack) ≡ 32
stack_length s o = let d = o.stack.index in let z = o.stack.size in let e = length-drop s.top s.stack in omega arith

pub frames_length : (s : State) → Ok s → s.newest + length (drop s.newest s.frames) ≡ 8
frames_length s o = let d = o.frames.index in let z = o.frames.size in let e = length-drop s.newest s.frames in omega arith

pub ok_framed : (h : ℕ) (s : State) → Ok s → 0 < s.newest → 2 ≤ s.top → Ok (framed h s)
ok_framed h s o p q =
    record {
      stack = o.stack;
      frames = record {
        index = let d = o.frames.index in omega arith;
        size = length-set s.frames (s.newest - 1) (new_frame h s) ∙ o.frames.size;
        low = all_set (λ (f : Frame). f.height ≤ 30) s.frames (s.newest - 1) (new_frame h s) no_frame o.frames.low (omega arith);
      };
      locals = o.locals;
      places = o.places;
    }

pub control_framed : (h : ℕ) (s : State) → Ok s → 0 < s.newest → control (framed h s) ≡ with_frames (tried h (account s) (control s) ∷ drop s.newest s.frames) (control s)
control_framed h s o p =
    let i : s.newest - 1 + 1 ≡ s.newest = omega arith in
    let d = o.frames.index in
    let z = o.frames.size in
    let n : 32 - s.top ≡ length (drop s.top s.stack) = let e = stack_length s o in omega arith in
    ap (λ (l : List Frame). with_frames l (control s))
    (drop_set s.frames (s.newest - 1) (new_frame h s) (omega arith)
    ∙ ap (λ (j : ℕ). new_frame h s ∷ drop j s.frames) i
    ∙ ap (λ (m : ℕ). record { handler = h; height = m; clearance = s.clearance } ∷ drop s.newest s.frames) n)

pub next_live : (r : State) → Live r → (σ : Store) → next_of r σ ≡ go (control r) (account r) σ
next_live r e σ = ap (λ (h : Option Ending). next_on h (control r) (account r) σ) e

-- ── what the code finds on the stack and in the locals ──

pub read_at : (l : List Value) (i n : ℕ) → length l ≡ suc n → present_of i (suc n) (get_or l (min i n) (number 0)) ≡ (get_or l i (number 0)).datum
read_at l i n e = test (ltb i (suc n)) refl where
  test : (b : Bool) → ltb i (suc n) ≡ b → cond b (get_or l (min i n) (number 0)).datum (Number 0) ≡ (get_or l i (number 0)).datum
  test true t = ap (λ (j : ℕ). (get_or l j (number 0)).datum) (let h = ltb-true i (suc n) t in omega arith)
  test false t = let h : length l ≤ i = (let k = ltb-false i (suc n) t in omega arith) in ap (λ (v : Value). v.datum) (sym (get_or-eq_default l (number 0) h))

-- a value read at the least of its place and 31, where it is there
operand_there : (s : State) (i j : ℕ) → Ok s → i ≡ min (s.top + j) 31 → j + 1 ≤ length (control s).stack → (get_or s.stack i (number 0)).datum ≡ (get_or (control s).stack j (number 0)).datum
operand_there s i j o e h =
    let n : i ≡ s.top + j = (let z = o.stack.size in let w = length-drop s.top s.stack in omega (arith, e, h, z, w)) in
    ap (λ (m : ℕ). (get_or s.stack m (number 0)).datum) n ∙ ap (λ (v : Value). v.datum) (sym (get_or-drop s.top s.stack j (number 0)))

-- the two values on top, as the code reads them
pub tops : (s : State) (f g : ℕ) → Ok s → f ≡ min s.top 31 → g ≡ min (s.top + 1) 31 → Tops (control s) (get_or s.stack f (number 0)).datum (get_or s.stack g (number 0)).datum
tops s f g o e d =
    record { first = λ h. operand_there s f 0 o (omega (arith, e)) (omega (arith, h)); second = λ h. operand_there s g 1 o d (omega (arith, h)) }

pub bounded : (s : State) → Ok s → Bounded (control s) (account s)
bounded s o = record { stack = omega (arith, stack_length s o); frames = omega (arith, frames_length s o); places = o.places.used }

-- what an effect needs, in the state's own numbers
pub record Room (s : State) (g f d m : ℕ) : Type 0 where
  pub room : g ≤ s.top
  pub free : f ≤ s.newest
  pub held : d + s.newest ≤ 8
  pub places : m + s.next ≤ s.limit

pub roomy : (s : State) {g f d m : ℕ} → Ok s → Fits (control s) (account s) g f d m → Room s g f d m
roomy s o w =
    let h = stack_length s o in
    let n = frames_length s o in
    record { room = omega (arith, h, w.room); free = omega (arith, n, w.free); held = omega (arith, n, w.held); places = w.places }
