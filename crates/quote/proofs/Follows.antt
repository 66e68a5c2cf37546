-- One instruction of a run without frames: it costs at most what its node says, and goes on at one of the node's successors.
use Rattle.std.specs.Prelude.{None, Some}
use mathlib.Core.Bool.{Bool, true, false, true≢false, cond, ◌&&◌}
use mathlib.Core.List.{List, [], ◌∷◌}
use mathlib.Core.Path.{◌≡◌, refl, sym, subst}
use Prim.Native.Nat.{ℕ, ◌+◌, ◌-◌, ◌≤◌}
use native.Mathlib.Omega.{arith}
use lib.Dec.{leb, ltb, eqb}
use lib.ListN.{length}
use Rattle.labels.specs.declared.Label.{Label}
use Rattle.model.specs.State.{Control, Store, Program, flows_in, Runner, at, jump, with_stack, Slot}
use Rattle.model.specs.declared.Account.{Account}
use Rattle.model.specs.Operands.{Request, none, ends, throws, raises, lowers, labels, opens, makes, writes, blocks, Plan, faults, asks, pop_from, as_number, as_label, pop, pop_number, pop_label, arity, drop_frame, operate, plan}
use Rattle.model.specs.Effects.{Next, go, stop, fail_to, fail, check, check_flow, check_between, raised, yield, open_slot, label_slot, write_slot, act}
use Rattle.model.specs.Running.{perform, step}
use Rattle.model.specs.declared.Datum.{Datum}
use Rattle.model.specs.declared.Value.{Value}
use Rattle.model.specs.declared.Contents.{Contents}
use Rattle.model.specs.declared.Contents.TheVariants.{Value as Holds, Fault}
use Rattle.model.specs.declared.Frame.{Frame}
use Rattle.model.specs.declared.Instr.{Instr}
use Rattle.model.specs.declared.Instr.TheVariants.{End, Push, Lab, Get, Set, Pop, Add, Sub, Less, Same, Jump, Ifz, Cur, Clr, Raise, Lower, Flows, Join, Meet, Seal, Open, Labof, New, Read, Write, Block, Try, Done, Throw, Input}
use Rattle.model.proofs.Tests.{cond_one}
use Rattle.model.proofs.Plans.{number_of, label_of, handle_of, sealed_of, reference_of}
use Rattle.model.proofs.Costs.{Cost, costs, target_ok, cost, plan_cost, next_cost}
use Rattle.formulas.specs.Lists.{among}
use Rattle.quote.specs.Quoting.{Node, goes_on, makes_record, stops_path, node}
use Rattle.quote.proofs.Largest.{among_first, among_later}

-- ── what a request costs at most ──

abbrev most_of : Request → Cost
most_of none = costs 0 0
most_of (ends d) = costs 0 0
most_of (throws n) = costs 0 0
most_of (raises l) = costs 0 0
most_of (lowers l) = costs 0 0
most_of (labels p) = costs 0 0
most_of (opens p) = costs 0 0
most_of (makes h l d) = costs 0 1
most_of (writes p d) = costs 0 0
most_of (blocks b t n k) = costs n (k + 1)

-- cost x is at most y
abbrev pub AtMost : Cost → Cost → Type 0
AtMost y x = (x.steps ≤ y.steps) × (x.places ≤ y.places)

paid_or_not : (t : Bool) (s p : ℕ) → AtMost (costs s p) (cond t (costs s p) (costs 0 0))
paid_or_not true s p = (omega arith, omega arith)
paid_or_not false s p = (omega arith, omega arith)

cost_most : (P : Program) (a : Account) (q : Request) → AtMost (most_of q) (cost P a q)
unfolding cost
cost_most P a none = (omega arith, omega arith)
cost_most P a (ends d) = (omega arith, omega arith)
cost_most P a (throws n) = (omega arith, omega arith)
cost_most P a (raises l) = (omega arith, omega arith)
cost_most P a (lowers l) = (omega arith, omega arith)
cost_most P a (labels p) = (omega arith, omega arith)
cost_most P a (opens p) = (omega arith, omega arith)
cost_most P a (makes h l d) = paid_or_not (target_ok P a l && ltb a.next a.limit) 0 1
cost_most P a (writes p d) = (omega arith, omega arith)
cost_most P a (blocks b t n k) = paid_or_not (target_ok P a b && (ltb a.depth 8 && (leb n a.steps && leb (a.next + 1 + k) a.limit))) n (k + 1)

-- ── the plan ──

-- a request that doesn't end the run goes on at pc, which is one of these places
abbrev GoesTo : List ℕ → ℕ → Request → Type 0
GoesTo is pc none = among pc is ≡ true
GoesTo is pc (ends d) = Unit {0}
GoesTo is pc (throws n) = Unit {0}
GoesTo is pc (raises l) = among pc is ≡ true
GoesTo is pc (lowers l) = among pc is ≡ true
GoesTo is pc (labels p) = among pc is ≡ true
GoesTo is pc (opens p) = among pc is ≡ true
GoesTo is pc (makes h l d) = among pc is ≡ true
GoesTo is pc (writes p d) = among pc is ≡ true
GoesTo is pc (blocks b t n k) = among pc is ≡ true

-- with its own step, within what the node says
abbrev Costs : Node → Request → Type 0
Costs x q = (1 + (most_of q).steps ≤ x.steps) × ((most_of q).places ≤ x.places)

abbrev PlanFollows : Node → Plan → Type 0
PlanFollows x (faults code) = Unit {0}
PlanFollows x (asks r q) = (r.frames ≡ []) × Costs x q × GoesTo x.successors r.pc q

module _ (P : Program) (a : Account) (i : ℕ) where
  module _ (x : Node) where
    abbrev Good : Plan → Type 0
    Good = PlanFollows x

    pop_follows : (c : Control) (s : List Value) (k : Datum → Control → Plan) → ((d : Datum) (s : List Value) → Good (k d (with_stack s c)))
        → Good (pop_from c s k)
    unfolding pop_from
    pop_follows c [] k f = tt
    pop_follows c (v ∷ s) k f = f v.datum s

    any : (c : Control) (k : Datum → Control → Plan) → ((d : Datum) (s : List Value) → Good (k d (with_stack s c))) → Good (pop c k)
    any c k f = pop_follows c c.stack k f

    one_number : (c : Control) (k : ℕ → Control → Plan) → ((n : ℕ) (s : List Value) → Good (k n (with_stack s c))) → Good (pop_number c k)
    one_number c k f = any c (λ d r. as_number d (λ n. k n r)) (λ d s. number_of Good (λ _. tt) d (λ n. k n (with_stack s c)) (λ n. f n s))

    one_label : (c : Control) (k : Label → Control → Plan) → ((l : Label) (s : List Value) → Good (k l (with_stack s c))) → Good (pop_label c k)
    one_label c k f = any c (λ d r. as_label d (λ l. k l r)) (λ d s. label_of Good (λ _. tt) d (λ l. k l (with_stack s c)) (λ l. f l s))

  module _ (c : Control) (g : c.frames ≡ []) where
    abbrev Follows : Instr → Type 0
    Follows x = (node i c.pc x).ahead ≡ true → PlanFollows (node i c.pc x) (operate P a c x)

    here : (is : List ℕ) → among c.pc (c.pc ∷ is) ≡ true
    here is = among_first c.pc is

    -- on with the next instruction
    on : (c.frames ≡ []) × Costs (goes_on c.pc) none × (among c.pc (c.pc ∷ []) ≡ true)
    on = (g, (omega arith, omega arith), here [])

    operate_follows : (x : Instr) → Follows x
    unfolding operate node drop_frame
    operate_follows End e = any stops_path c _ (λ d s. (g, (omega arith, omega arith), tt))
    operate_follows (Push n) e = on
    operate_follows (Lab l) e = on
    operate_follows (Get l) e = on
    operate_follows (Set l) e = any (goes_on c.pc) c _ (λ d s. on)
    operate_follows Pop e = any (goes_on c.pc) c _ (λ d s. on)
    operate_follows Add e = one_number (goes_on c.pc) c _ (λ y s. one_number (goes_on c.pc) (with_stack s c) _ (λ x t. on))
    operate_follows Sub e = one_number (goes_on c.pc) c _ (λ y s. one_number (goes_on c.pc) (with_stack s c) _ (λ x t. on))
    operate_follows Less e = one_number (goes_on c.pc) c _ (λ y s. one_number (goes_on c.pc) (with_stack s c) _ (λ x t. on))
    operate_follows Same e = one_number (goes_on c.pc) c _ (λ y s. one_number (goes_on c.pc) (with_stack s c) _ (λ x t. on))
    operate_follows (Jump t) e = (g, (omega arith, omega arith), among_first t [])
    operate_follows (Ifz t) e =
        one_number (node i c.pc (Ifz t)) c _
        (λ n s. cond_one (λ (r : Control). PlanFollows (node i c.pc (Ifz t)) (asks r none)) (eqb n 0)
        (λ _. (g, (omega arith, omega arith), among_first t (c.pc ∷ [])))
        (λ _. (g, (omega arith, omega arith), among_later c.pc t (c.pc ∷ []) (here []))))
    operate_follows Cur e = on
    operate_follows Clr e = on
    operate_follows Raise e = one_label (goes_on c.pc) c _ (λ l s. on)
    operate_follows Lower e = one_label (goes_on c.pc) c _ (λ l s. on)
    operate_follows Flows e = one_label (goes_on c.pc) c _ (λ m s. one_label (goes_on c.pc) (with_stack s c) _ (λ l t. on))
    operate_follows Join e = one_label (goes_on c.pc) c _ (λ m s. one_label (goes_on c.pc) (with_stack s c) _ (λ l t. on))
    operate_follows Meet e = one_label (goes_on c.pc) c _ (λ m s. one_label (goes_on c.pc) (with_stack s c) _ (λ l t. on))
    operate_follows Seal e = one_label (makes_record c.pc) c _ (λ l s. any (makes_record c.pc) (with_stack s c) _ (λ d t. (g, (omega arith, omega arith), here [])))
    operate_follows Open e = any (goes_on c.pc) c _ (λ d s. sealed_of (PlanFollows (goes_on c.pc)) (λ _. tt) d _ (λ _ p _. on))
    operate_follows Labof e = any (goes_on c.pc) c _ (λ d s. handle_of (PlanFollows (goes_on c.pc)) (λ _. tt) d _ (λ _ p _. on))
    operate_follows New e = one_label (makes_record c.pc) c _ (λ l s. any (makes_record c.pc) (with_stack s c) _ (λ d t. (g, (omega arith, omega arith), here [])))
    operate_follows Read e = any (goes_on c.pc) c _ (λ d s. reference_of (PlanFollows (goes_on c.pc)) (λ _. tt) d _ (λ _ p _. on))
    operate_follows Write e =
        any (goes_on c.pc) c _ (λ h s. any (goes_on c.pc) (with_stack s c) _ (λ d t. reference_of (PlanFollows (goes_on c.pc)) (λ _. tt) h _ (λ _ p _. on)))
    operate_follows (Block t n k) e = one_label (node i c.pc (Block t n k)) c _ (λ l s. (g, (omega arith, omega arith), here []))
    operate_follows (Try h) e = absurd (true≢false (sym e))
    operate_follows Done e = rw g tt
    operate_follows Throw e = one_number stops_path c _ (λ n s. (g, (omega arith, omega arith), tt))
    operate_follows (Input n) e = on

    plan_follows : (x : Instr) → (node i c.pc x).ahead ≡ true → PlanFollows (node i c.pc x) (plan P a c x)
    unfolding plan
    plan_follows x e =
        cond_one (PlanFollows (node i c.pc x)) (leb (arity x).takes (length c.stack))
        (λ _. cond_one (PlanFollows (node i c.pc x)) (leb (length c.stack - (arity x).takes + (arity x).leaves) 32) (λ _. operate_follows x e) (λ _. tt))
        (λ _. tt)

-- ── the instruction ──

-- a run that goes on has no frames, and is at one of these places
abbrev pub NextFollows : List ℕ → Next → Type 0
NextFollows is (go c a σ) = (c.frames ≡ []) × (among c.pc is ≡ true)
NextFollows is (stop e a σ) = Unit {0}

module _ (P : Program) (R : Runner) (is : List ℕ) (c : Control) (g : c.frames ≡ []) (σ : Store) where
  abbrev Goes : Next → Type 0
  Goes = NextFollows is

  -- a fault without a frame ends the run
  fails : (code n : ℕ) (a : Account) → Goes (fail code n c a σ)
  unfolding fail_to
  fails code n a = subst (λ (fs : List Frame). Goes (fail_to fs code n c a σ)) (sym g) tt

  module _ (a : Account) where
    checked : (t : Bool) (code n : ℕ) (x : Next) → Goes x → Goes (check t code n c a σ x)
    checked t code n x h = cond_one Goes t (λ _. h) (λ _. fails code n a)

    flowing : (l m : Label) (code : ℕ) (x : Next) → Goes x → Goes (check_flow P l m code c a σ x)
    flowing l m code x h = checked (flows_in P l m) code _ x h

    between : (first second : ℕ) (l : Label) (x : Next) → Goes x → Goes (check_between P first second l c a σ x)
    between first second l x h = flowing a.label l first _ (flowing l a.clearance second x h)

    module _ (r : Control) (k : r.frames ≡ []) where
      yields : (b : Account) (x : Contents) → among r.pc is ≡ true → Goes (yield c r b σ x)
      unfolding yield
      yields b (Holds d) h = (k, h)
      yields b (Fault code n) h = fails code n b

      opened : (x : Slot) → among r.pc is ≡ true → Goes (open_slot P c r a σ x)
      unfolding open_slot
      opened None h = fails 33 0 a
      opened (Some x) h = flowing (P.join a.label x.label) a.clearance 24 _ (yields (raised P x.label a) x.contents h)

      labelled : (x : Slot) → among r.pc is ≡ true → Goes (label_slot c r a σ x)
      unfolding label_slot
      labelled None h = fails 33 0 a
      labelled (Some x) h = (k, h)

      written : (p : ℕ) (d : Datum) (x : Slot) → among r.pc is ≡ true → Goes (write_slot P c r a σ p d x)
      unfolding write_slot
      written p d None h = fails 33 0 a
      written p d (Some x) h = between 23 24 x.label _ (k, h)

      act_follows : (q : Request) → GoesTo is r.pc q → Goes (act P R c r a σ q)
      unfolding act
      act_follows none h = (k, h)
      act_follows (ends d) h = tt
      act_follows (throws n) h = fails 30 n a
      act_follows (raises l) h = flowing (P.join a.label l) a.clearance 24 _ (k, h)
      act_follows (lowers l) h = between 25 25 l _ (k, h)
      act_follows (labels p) h = labelled (at σ p) h
      act_follows (opens p) h = opened (at σ p) h
      act_follows (makes m l d) h = between 23 24 l _ (checked (ltb a.next a.limit) 26 0 _ (k, h))
      act_follows (writes p d) h = written p d (at σ p) h
      act_follows (blocks b t n m) h =
          between 23 24 b _
          (checked (ltb a.depth 8) 28 0 _ (checked (leb n a.steps) 27 0 _ (checked (leb (a.next + 1 + m) a.limit) 26 0 _ (k, h))))

    perform_follows : (x : Node) → x.successors ≡ is → (q : Plan) → PlanFollows x q → Goes (perform P R c a σ q)
    unfolding perform
    perform_follows x e (faults code) h = fails code 0 a
    perform_follows x e (asks r q) h = act_follows r h.0 q (subst (λ (js : List ℕ). GoesTo js r.pc q) e h.2)

plan_costs : (P : Program) (a : Account) (x : Node) (q : Plan) → 1 ≤ x.steps → PlanFollows x q
    → (1 + (plan_cost P a q).steps ≤ x.steps) × ((plan_cost P a q).places ≤ x.places)
plan_costs P a x (faults code) one h = (one, omega arith)
plan_costs P a x (asks r q) one h = let m = cost_most P a q in (omega (arith, m.0, h.1.0), omega (arith, m.1, h.1.1))

-- the node of the instruction at a place of a program's code
abbrev pub node_in : Program → ℕ → Node
node_in P i = node i (P.after i) (P.fetch i)

module _ (P : Program) (c : Control) (g : c.frames ≡ []) (a : Account) (e : (node_in P c.pc).ahead ≡ true) where
  follows : PlanFollows (node_in P c.pc) (plan P a (jump (P.after c.pc) c) (P.fetch c.pc))
  follows = plan_follows P a c.pc (jump (P.after c.pc) c) g (P.fetch c.pc) e

  -- It goes on at a successor.
  pub step_follows : (R : Runner) (σ : Store) → NextFollows (node_in P c.pc).successors (step P R c a σ)
  unfolding step
  step_follows R σ =
      perform_follows P R (node_in P c.pc).successors (jump (P.after c.pc) c) g σ a (node_in P c.pc) refl
      (plan P a (jump (P.after c.pc) c) (P.fetch c.pc)) follows

  -- It costs at most what the node says.
  pub step_costs : 1 ≤ (node_in P c.pc).steps
      → (1 + (next_cost P c a).steps ≤ (node_in P c.pc).steps) × ((next_cost P c a).places ≤ (node_in P c.pc).places)
  step_costs one = plan_costs P a (node_in P c.pc) (plan P a (jump (P.after c.pc) c) (P.fetch c.pc)) one follows
