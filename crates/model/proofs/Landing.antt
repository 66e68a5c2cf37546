-- Where an instruction lets a run go on, and with which label, clearance and frames. If N holds of every place that the code
-- goes to from a place in N, a run stays in N; and a property of label, clearance and frames that each way to change them
-- keeps is kept by a run.
use Rattle.std.specs.Prelude.{None, Some}
use mathlib.Core.Bool.{true}
use mathlib.Core.List.{List, [], ◌∷◌}
use mathlib.Core.Path.{◌≡◌}
use Prim.Native.Nat.{ℕ, ◌+◌, ◌-◌}
use lib.Dec.{leb, ltb, eqb}
use lib.ListN.{length}
use Rattle.labels.specs.declared.Label.{Label}
use Rattle.model.specs.State.{Control, Store, Program, flows_in, Runner, at, jump, with_stack, Slot}
use Rattle.model.specs.declared.Account.{Account}
use Rattle.model.specs.Operands.{Request, none, ends, throws, raises, lowers, labels, opens, makes, writes, blocks, Plan, faults, asks, pop_from, as_number, as_label, pop, pop_number, pop_label, arity, drop_frame, operate, plan}
use Rattle.model.specs.Effects.{Next, go, stop, fail_to, fail, check_between, check_raise, raised, yield, open_slot, label_slot, write_slot, act}
use Rattle.model.specs.Running.{perform, step}
use Rattle.model.specs.declared.Datum.{Datum}
use Rattle.model.specs.declared.Value.{Value}
use Rattle.model.specs.declared.Contents.{Contents}
use Rattle.model.specs.declared.Contents.TheVariants.{Value as Holds, Fault}
use Rattle.model.specs.declared.Frame.{Frame}
use Rattle.model.specs.declared.Instr.{Instr}
use Rattle.model.specs.declared.Instr.TheVariants.{End, Push, Lab, Get, Set, Pop, Add, Sub, Less, Same, Jump, Ifz, Cur, Clr, Raise, Lower, Flows, Join, Meet, Seal, Open, Labof, New, Read, Write, Block, Try, Done, Throw, Input}
use Rattle.model.proofs.Tests.{cond_one}
use Rattle.model.proofs.Plans.{number_of, label_of, handle_of, sealed_of, reference_of}

-- ── the statement ──

-- the places where the run may go on from an instruction, next being the place behind it
abbrev pub ways : ℕ → Instr → List ℕ
ways next End = []
ways next Throw = []
ways next (Jump t) = t ∷ []
ways next (Ifz t) = t ∷ next ∷ []
ways next (Block t n k) = t ∷ next ∷ []
ways next (Try h) = h ∷ next ∷ []
ways next i = next ∷ []

abbrev pub Each : (ℕ → Type 0) → List ℕ → Type 0
Each N [] = Unit {0}
Each N (x ∷ []) = N x
Each N (x ∷ y ∷ xs) = N x × Each N (y ∷ xs)

-- N holds of each of them
abbrev pub Lands : (ℕ → Type 0) → ℕ → Instr → Type 0
Lands N next i = Each N (ways next i)

-- the code may go anywhere
abbrev pub anywhere : ℕ → Type 0
anywhere pc = Unit {0}

each_anywhere : (xs : List ℕ) → Each anywhere xs
each_anywhere [] = tt
each_anywhere (x ∷ []) = tt
each_anywhere (x ∷ y ∷ xs) = (tt, each_anywhere (y ∷ xs))

pub lands_anywhere : (next : ℕ) (i : Instr) → Lands anywhere next i
lands_anywhere next i = each_anywhere (ways next i)

-- H, of label, clearance and frames, is kept by each way to change them.
pub record Keeps (P : Program) (N : ℕ → Type 0) (H : Label → Label → List Frame → Type 0) : Type 0 where
  pub tries : (l m : Label) (h n : ℕ) (fs : List Frame) → N h → H l m fs → H l m (record { handler = h; height = n; clearance = m } ∷ fs)
  pub drops : (l m : Label) (f : Frame) (fs : List Frame) → H l m (f ∷ fs) → H l m fs
  -- a caught fault goes on at the handler, with the frame's clearance
  pub catches : (l m : Label) (f : Frame) (fs : List Frame) → H l m (f ∷ fs) → N f.handler × H l f.clearance fs
  pub raises_to : (l m k : Label) (fs : List Frame) → flows_in P (P.join l k) m ≡ true → H l m fs → H (P.join l k) m fs
  pub lowers_to : (l m k : Label) (fs : List Frame) → flows_in P l k ≡ true → flows_in P k m ≡ true → H l m fs → H l k fs

-- a request that doesn't end the run goes on at pc; a body at its target
abbrev GoesOn : (ℕ → Type 0) → ℕ → Request → Type 0
GoesOn N pc (ends d) = Unit {0}
GoesOn N pc (throws n) = Unit {0}
GoesOn N pc (blocks b t n k) = N t × N pc
GoesOn N pc q = N pc

abbrev pub Holding : (Label → Label → List Frame → Type 0) → Account → List Frame → Type 0
Holding H a fs = H a.label a.clearance fs

module _ (N : ℕ → Type 0) (H : Label → Label → List Frame → Type 0) where
  abbrev pub PlanLands : Account → Plan → Type 0
  PlanLands a (faults code) = Unit {0}
  PlanLands a (asks r q) = GoesOn N r.pc q × Holding H a r.frames

  abbrev pub NextLands : Next → Type 0
  NextLands (go c a σ) = N c.pc × Holding H a c.frames
  NextLands (stop e a σ) = Holding H a []

module _ (P : Program) (N : ℕ → Type 0) (H : Label → Label → List Frame → Type 0) (K : Keeps P N H) where
  -- a run ends, and a body starts, with no frames
  pub all_dropped : (l m : Label) (fs : List Frame) → H l m fs → H l m []
  all_dropped l m [] h = h
  all_dropped l m (f ∷ fs) h = all_dropped l m fs (K.drops l m f fs h)

  module _ (a : Account) where
    -- ── operands leave pc and frames alone ──

    abbrev Good : Plan → Type 0
    Good = PlanLands N H a

    pop_lands : (c : Control) (s : List Value) (k : Datum → Control → Plan) → ((d : Datum) (s : List Value) → Good (k d (with_stack s c)))
        → Good (pop_from c s k)
    unfolding pop_from
    pop_lands c [] k f = tt
    pop_lands c (v ∷ s) k f = f v.datum s

    any : (c : Control) (k : Datum → Control → Plan) → ((d : Datum) (s : List Value) → Good (k d (with_stack s c))) → Good (pop c k)
    any c k f = pop_lands c c.stack k f

    one_number : (c : Control) (k : ℕ → Control → Plan) → ((n : ℕ) (s : List Value) → Good (k n (with_stack s c))) → Good (pop_number c k)
    one_number c k f = any c (λ d r. as_number d (λ n. k n r)) (λ d s. number_of Good (λ _. tt) d (λ n. k n (with_stack s c)) (λ n. f n s))

    one_label : (c : Control) (k : Label → Control → Plan) → ((l : Label) (s : List Value) → Good (k l (with_stack s c))) → Good (pop_label c k)
    one_label c k f = any c (λ d r. as_label d (λ l. k l r)) (λ d s. label_of Good (λ _. tt) d (λ l. k l (with_stack s c)) (λ l. f l s))

    drop_lands : (c : Control) (fs : List Frame) → N c.pc → Holding H a fs → Good (drop_frame c fs)
    unfolding drop_frame
    drop_lands c [] h g = tt
    drop_lands c (f ∷ fs) h g = (h, K.drops a.label a.clearance f fs g)

    operate_lands : (c : Control) (i : Instr) → Lands N c.pc i → Holding H a c.frames → Good (operate P a c i)
    unfolding operate
    operate_lands c End h g = any c _ (λ d s. (tt, g))
    operate_lands c (Push n) h g = (h, g)
    operate_lands c (Lab i) h g = (h, g)
    operate_lands c (Get i) h g = (h, g)
    operate_lands c (Set i) h g = any c _ (λ d s. (h, g))
    operate_lands c Pop h g = any c _ (λ d s. (h, g))
    operate_lands c Add h g = one_number c _ (λ y s. one_number (with_stack s c) _ (λ x t. (h, g)))
    operate_lands c Sub h g = one_number c _ (λ y s. one_number (with_stack s c) _ (λ x t. (h, g)))
    operate_lands c Less h g = one_number c _ (λ y s. one_number (with_stack s c) _ (λ x t. (h, g)))
    operate_lands c Same h g = one_number c _ (λ y s. one_number (with_stack s c) _ (λ x t. (h, g)))
    operate_lands c (Jump t) h g = (h, g)
    operate_lands c (Ifz t) h g =
        one_number c _ (λ n s. cond_one (λ (r : Control). Good (asks r none)) (eqb n 0) (λ _. (h.0, g)) (λ _. (h.1, g)))
    operate_lands c Cur h g = (h, g)
    operate_lands c Clr h g = (h, g)
    operate_lands c Raise h g = one_label c _ (λ l s. (h, g))
    operate_lands c Lower h g = one_label c _ (λ l s. (h, g))
    operate_lands c Flows h g = one_label c _ (λ m s. one_label (with_stack s c) _ (λ l t. (h, g)))
    operate_lands c Join h g = one_label c _ (λ m s. one_label (with_stack s c) _ (λ l t. (h, g)))
    operate_lands c Meet h g = one_label c _ (λ m s. one_label (with_stack s c) _ (λ l t. (h, g)))
    operate_lands c Seal h g = one_label c _ (λ l s. any (with_stack s c) _ (λ d t. (h, g)))
    operate_lands c Open h g = any c _ (λ d s. sealed_of Good (λ _. tt) d _ (λ _ p _. (h, g)))
    operate_lands c Labof h g = any c _ (λ d s. handle_of Good (λ _. tt) d _ (λ _ p _. (h, g)))
    operate_lands c New h g = one_label c _ (λ l s. any (with_stack s c) _ (λ d t. (h, g)))
    operate_lands c Read h g = any c _ (λ d s. reference_of Good (λ _. tt) d _ (λ _ p _. (h, g)))
    operate_lands c Write h g = any c _ (λ e s. any (with_stack s c) _ (λ d t. reference_of Good (λ _. tt) e _ (λ _ p _. (h, g))))
    operate_lands c (Block t n k) h g = one_label c _ (λ l s. (h, g))
    operate_lands c (Try k) h g = cond_one Good (ltb (length c.frames) 8) (λ _. (h.1, K.tries a.label a.clearance k (length c.stack) c.frames h.0 g)) (λ _. tt)
    operate_lands c Done h g = drop_lands c c.frames h g
    operate_lands c Throw h g = one_number c _ (λ n s. (tt, g))
    operate_lands c (Input i) h g = (h, g)

    pub plan_lands : (c : Control) (i : Instr) → Lands N c.pc i → Holding H a c.frames → PlanLands N H a (plan P a c i)
    unfolding plan
    plan_lands c i h g =
        cond_one Good (leb (arity i).takes (length c.stack))
        (λ _. cond_one Good (leb (length c.stack - (arity i).takes + (arity i).leaves) 32) (λ _. operate_lands c i h g) (λ _. tt))
        (λ _. tt)

  -- ── one instruction ──

  abbrev Goes : Next → Type 0
  Goes = NextLands N H

  fail_lands : (code n : ℕ) (c : Control) (a : Account) (σ : Store) → Holding H a c.frames → Goes (fail code n c a σ)
  unfolding fail_to
  fail_lands code n c a σ g = frames c.frames g
    where
      frames : (fs : List Frame) → Holding H a fs → Goes (fail_to fs code n c a σ)
      frames [] g = g
      frames (f ∷ fs) g = K.catches a.label a.clearance f fs g

  module _ (R : Runner) (c r : Control) (a : Account) (σ : Store) (gc : Holding H a c.frames) (gr : Holding H a r.frames) where
    fails : (code n : ℕ) → Goes (fail code n c a σ)
    fails code n = fail_lands code n c a σ gc

    between_lands : (first second : ℕ) (l : Label) (x : Next) → (flows_in P a.label l ≡ true → flows_in P l a.clearance ≡ true → Goes x)
        → Goes (check_between P first second l c a σ x)
    between_lands first second l x h =
        cond_one Goes (flows_in P a.label l)
        (λ e. cond_one Goes (flows_in P l a.clearance) (λ f. h e f) (λ _. fails second _))
        (λ _. fails first _)

    raise_lands : (l : Label) (x : Next) → (((fs : List Frame) → Holding H a fs → Holding H (raised P l a) fs) → Goes x)
        → Goes (check_raise P l c a σ x)
    raise_lands l x h =
        cond_one Goes (flows_in P (P.join a.label l) a.clearance)
        (λ e. h (λ fs g. K.raises_to a.label a.clearance l fs e g)) (λ _. fails 24 _)

    open_lands : (x : Slot) → N r.pc → Goes (open_slot P c r a σ x)
    unfolding open_slot yield
    open_lands None h = fails 33 0
    open_lands (Some x) h = raise_lands x.label _ (λ up. contents up x.contents)
      where
        contents : ((fs : List Frame) → Holding H a fs → Holding H (raised P x.label a) fs) → (y : Contents)
            → Goes (yield c r (raised P x.label a) σ y)
        contents up (Holds d) = (h, up r.frames gr)
        contents up (Fault code n) = fail_lands code n c (raised P x.label a) σ (up c.frames gc)

    labelled_lands : (x : Slot) → N r.pc → Goes (label_slot c r a σ x)
    unfolding label_slot
    labelled_lands None h = fails 33 0
    labelled_lands (Some x) h = (h, gr)

    write_lands : (p : ℕ) (d : Datum) (x : Slot) → N r.pc → Goes (write_slot P c r a σ p d x)
    unfolding write_slot
    write_lands p d None h = fails 33 0
    write_lands p d (Some x) h = between_lands 23 24 x.label _ (λ _ _. (h, gr))

    act_lands : (q : Request) → GoesOn N r.pc q → Goes (act P R c r a σ q)
    unfolding act
    act_lands none h = (h, gr)
    act_lands (ends d) h = all_dropped a.label a.clearance r.frames gr
    act_lands (throws n) h = fails 30 n
    act_lands (raises l) h = raise_lands l _ (λ up. (h, up r.frames gr))
    act_lands (lowers l) h = between_lands 25 25 l _ (λ e f. (h, K.lowers_to a.label a.clearance l r.frames e f gr))
    act_lands (labels p) h = labelled_lands (at σ p) h
    act_lands (opens p) h = open_lands (at σ p) h
    act_lands (makes k l d) h = between_lands 23 24 l _ (λ _ _. cond_one Goes (ltb a.next a.limit) (λ _. (h, gr)) (λ _. fails 26 0))
    act_lands (writes p d) h = write_lands p d (at σ p) h
    act_lands (blocks b t n k) h =
        between_lands 23 24 b _
        (λ _ _. cond_one Goes (ltb a.depth 8)
        (λ _. cond_one Goes (leb n a.steps)
        (λ _. cond_one Goes (leb (a.next + 1 + k) a.limit) (λ _. (h.1, gr)) (λ _. fails 26 0))
        (λ _. fails 27 0))
        (λ _. fails 28 0))

  perform_lands : (R : Runner) (c : Control) (a : Account) (σ : Store) → Holding H a c.frames → (q : Plan) → PlanLands N H a q
      → Goes (perform P R c a σ q)
  unfolding perform
  perform_lands R c a σ g (faults code) h = fail_lands code 0 c a σ g
  perform_lands R c a σ g (asks r q) h = act_lands R c r a σ g h.1 q h.0

  pub step_lands : (R : Runner) (c : Control) (a : Account) (σ : Store) → Lands N (P.after c.pc) (P.fetch c.pc) → Holding H a c.frames
      → NextLands N H (step P R c a σ)
  unfolding step
  step_lands R c a σ h g =
      perform_lands R behind a σ g (plan P a behind (P.fetch c.pc)) (plan_lands a behind (P.fetch c.pc) h g)
    where
      behind : Control
      behind = jump (P.after c.pc) c
