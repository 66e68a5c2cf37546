-- A plan makes no handle: a property T of the place of every handle in the script's reach is one of every handle in the plan.
use mathlib.Core.Bool.{Bool, true, false}
use mathlib.Core.List.{List, [], ◌∷◌}
use mathlib.Core.Path.{◌≡◌, refl, subst}
use Prim.Native.Nat.{ℕ, zero, suc, ◌+◌, ◌-◌}
use lib.Dec.{leb, ltb, eqb}
use lib.ListN.{length, get_or, set, drop}
use Rattle.labels.specs.declared.Label.{Label}
use Rattle.model.specs.State.{Control, Program, flows_in, value, number, with_stack}
use Rattle.model.specs.declared.Account.{Account}
use Rattle.model.specs.Operands.{Request, ends, labels, opens, makes, writes, Plan, faults, asks, pop_from, as_number, as_label, as_handle, as_sealed, as_reference, pop, pop_number, pop_label, arity, pushes, truth, drop_frame, operate, plan}
use Rattle.model.specs.declared.Kind.{Kind}
use Rattle.model.specs.declared.Kind.TheVariants.{Sealed, Reference}
use Rattle.model.specs.declared.Datum.{Datum}
use Rattle.model.specs.declared.Datum.TheVariants.{Number, Label as Labelled, Handle}
use Rattle.model.specs.declared.Value.{Value}
use Rattle.model.specs.declared.Frame.{Frame}
use Rattle.model.specs.declared.Instr.{Instr}
use Rattle.model.specs.declared.Instr.TheVariants.{End, Push, Lab, Get, Set, Pop, Add, Sub, Less, Same, Jump, Ifz, Cur, Clr, Raise, Lower, Flows, Join, Meet, Seal, Open, Labof, New, Read, Write, Block, Try, Done, Throw, Input}
use Rattle.model.proofs.Tests.{cond_one}

-- ── the statement ──

module _ (T : ℕ → Type 0) where
  -- if a datum is a handle, T holds of its place
  abbrev pub Points : Datum → Type 0
  Points (Number n) = Unit {0}
  Points (Labelled l) = Unit {0}
  Points (Handle h p) = T p

  abbrev pub All : List Value → Type 0
  All [] = Unit {0}
  All (v ∷ s) = Points v.datum × All s

  pub record Reach (c : Control) : Type 0 where
    pub stack : All c.stack
    pub locals : All c.locals

  abbrev pub InRequest : Request → Type 0
  InRequest (ends d) = Points d
  InRequest (labels p) = T p
  InRequest (opens p) = T p
  InRequest (makes h l d) = Points d
  InRequest (writes p d) = T p × Points d
  InRequest q = Unit {0}

  abbrev pub InPlan : Plan → Type 0
  InPlan (faults code) = Unit {0}
  InPlan (asks c q) = Reach c × InRequest q

-- ── lists, and a wider property ──

module _ (T : ℕ → Type 0) where
  all_get_d : (s : List Value) (i : ℕ) (v : Value) → All T s → Points T v.datum → Points T (get_or s i v).datum
  all_get_d [] i v h k = k
  all_get_d (x ∷ s) zero v h k = h.0
  all_get_d (x ∷ s) (suc i) v h k = all_get_d s i v h.1 k

  all_set : (s : List Value) (i : ℕ) (v : Value) → All T s → Points T v.datum → All T (set s i v)
  all_set [] i v h k = h
  all_set (x ∷ s) zero v h k = (k, h.1)
  all_set (x ∷ s) (suc i) v h k = (h.0, all_set s i v h.1 k)

  pub all_drop : (n : ℕ) (s : List Value) → All T s → All T (drop n s)
  all_drop zero s h = h
  all_drop (suc n) [] h = h
  all_drop (suc n) (x ∷ s) h = all_drop n s h.1

  module _ (T' : ℕ → Type 0) (f : (p : ℕ) → T p → T' p) where
    pub points_wider : (d : Datum) → Points T d → Points T' d
    points_wider (Number n) h = tt
    points_wider (Labelled l) h = tt
    points_wider (Handle k p) h = f p h

    pub all_wider : (s : List Value) → All T s → All T' s
    all_wider [] h = h
    all_wider (x ∷ s) h = (points_wider x.datum h.0, all_wider s h.1)

    pub reach_wider : (c : Control) → Reach T c → Reach T' c
    reach_wider c h = record { stack = all_wider c.stack h.stack; locals = all_wider c.locals h.locals }

-- ── operands: what holds of faults, and of what the wanted kind of operand leads to, holds of the plan ──

module _ (Q : Plan → Type 0) (fault : (code : ℕ) → Q (faults code)) where
  pub number_of : (d : Datum) (k : ℕ → Plan) → ((n : ℕ) → Q (k n)) → Q (as_number d k)
  unfolding as_number
  number_of (Number n) k f = f n
  number_of d k f = fault 22

  pub label_of : (d : Datum) (k : Label → Plan) → ((l : Label) → Q (k l)) → Q (as_label d k)
  unfolding as_label
  label_of (Labelled l) k f = f l
  label_of d k f = fault 22

  pub handle_of : (d : Datum) (k : ℕ → Plan) → ((h : Kind) (p : ℕ) → d ≡ Handle h p → Q (k p)) → Q (as_handle d k)
  unfolding as_handle
  handle_of (Handle h p) k f = f h p refl
  handle_of d k f = fault 22

  pub sealed_of : (d : Datum) (k : ℕ → Plan) → ((h : Kind) (p : ℕ) → d ≡ Handle h p → Q (k p)) → Q (as_sealed d k)
  unfolding as_sealed
  sealed_of (Handle Sealed p) k f = f Sealed p refl
  sealed_of d k f = fault 22

  pub reference_of : (d : Datum) (k : ℕ → Plan) → ((h : Kind) (p : ℕ) → d ≡ Handle h p → Q (k p)) → Q (as_reference d k)
  unfolding as_reference
  reference_of (Handle Reference p) k f = f Reference p refl
  reference_of d k f = fault 22

-- ── the proof ──

module _ (T : ℕ → Type 0) where
  pop_in : (c : Control) (s : List Value) (k : Datum → Control → Plan) → All T s
      → ((d : Datum) (s : List Value) → Points T d → All T s → InPlan T (k d (with_stack s c))) → InPlan T (pop_from c s k)
  unfolding pop_from
  pop_in c [] k h f = tt
  pop_in c (v ∷ s) k h f = f v.datum s h.0 h.1

  module _ (c : Control) (g : Reach T c) where
    rest : (s : List Value) → All T s → Reach T (with_stack s c)
    rest s h = record { stack = h; locals = g.locals }

    pushes_in : (d : Datum) (s : List Value) → Points T d → All T s → InPlan T (pushes d (with_stack s c))
    pushes_in d s x h = (record { stack = (x, h); locals = g.locals }, tt)

    -- one operand: of any kind, a number, a label
    any : (k : Datum → Control → Plan) → ((d : Datum) (s : List Value) → Points T d → All T s → InPlan T (k d (with_stack s c))) → InPlan T (pop c k)
    any k f = pop_in c c.stack k g.stack f

    one_number : (k : ℕ → Control → Plan) → ((n : ℕ) (s : List Value) → All T s → InPlan T (k n (with_stack s c))) → InPlan T (pop_number c k)
    one_number k f = any (λ d r. as_number d (λ n. k n r)) (λ d s x h. number_of (InPlan T) (λ _. tt) d (λ n. k n (with_stack s c)) (λ n. f n s h))

    one_label : (k : Label → Control → Plan) → ((l : Label) (s : List Value) → All T s → InPlan T (k l (with_stack s c))) → InPlan T (pop_label c k)
    one_label k f = any (λ d r. as_label d (λ l. k l r)) (λ d s x h. label_of (InPlan T) (λ _. tt) d (λ l. k l (with_stack s c)) (λ l. f l s h))

    drop_in : (fs : List Frame) → InPlan T (drop_frame c fs)
    unfolding drop_frame
    drop_in [] = tt
    drop_in (f ∷ fs) = (record { stack = g.stack; locals = g.locals }, tt)

  two_numbers : (c : Control) → Reach T c → (f : ℕ → ℕ → Datum) → ((x y : ℕ) → Points T (f x y))
      → InPlan T (pop_number c (λ y r. pop_number r (λ x q. pushes (f x y) q)))
  two_numbers c g f x =
      one_number c g _ (λ m s h. one_number (with_stack s c) (rest c g s h) _ (λ n t k. pushes_in c g (f n m) t (x n m) k))

  two_labels : (c : Control) → Reach T c → (f : Label → Label → Datum) → ((l m : Label) → Points T (f l m))
      → InPlan T (pop_label c (λ m r. pop_label r (λ l q. pushes (f l m) q)))
  two_labels c g f x =
      one_label c g _ (λ m s h. one_label (with_stack s c) (rest c g s h) _ (λ l t k. pushes_in c g (f l m) t (x l m) k))

  truth_in : (b : Bool) → Points T (truth b)
  truth_in true = tt
  truth_in false = tt

  module _ (P : Program) (a : Account) (inputs : All T P.inputs) where
    operate_in : (c : Control) → Reach T c → (i : Instr) → InPlan T (operate P a c i)
    unfolding operate
    operate_in c g End = any c g _ (λ d s x h. (rest c g s h, x))
    operate_in c g (Push n) = pushes_in c g _ c.stack tt g.stack
    operate_in c g (Lab i) = pushes_in c g _ c.stack tt g.stack
    operate_in c g (Get i) = pushes_in c g _ c.stack (all_get_d T c.locals i (number 0) g.locals tt) g.stack
    operate_in c g (Set i) = any c g _ (λ d s x h. (record { stack = h; locals = all_set T c.locals i (value d) g.locals x }, tt))
    operate_in c g Pop = any c g _ (λ d s x h. (rest c g s h, tt))
    operate_in c g Add = two_numbers c g _ (λ x y. tt)
    operate_in c g Sub = two_numbers c g _ (λ x y. tt)
    operate_in c g Less = two_numbers c g _ (λ x y. truth_in (ltb x y))
    operate_in c g Same = two_numbers c g _ (λ x y. truth_in (eqb x y))
    operate_in c g (Jump t) = (record { stack = g.stack; locals = g.locals }, tt)
    operate_in c g (Ifz t) =
        one_number c g _ (λ n s h. (cond_one (Reach T) (eqb n 0) (λ _. record { stack = h; locals = g.locals }) (λ _. rest c g s h), tt))
    operate_in c g Cur = pushes_in c g _ c.stack tt g.stack
    operate_in c g Clr = pushes_in c g _ c.stack tt g.stack
    operate_in c g Raise = one_label c g _ (λ l s h. (rest c g s h, tt))
    operate_in c g Lower = one_label c g _ (λ l s h. (rest c g s h, tt))
    operate_in c g Flows = two_labels c g _ (λ l m. truth_in (flows_in P l m))
    operate_in c g Join = two_labels c g _ (λ l m. tt)
    operate_in c g Meet = two_labels c g _ (λ l m. tt)
    operate_in c g Seal = one_label c g _ (λ l s h. any (with_stack s c) (rest c g s h) _ (λ d t x k. (rest c g t k, x)))
    operate_in c g Open = any c g _ (λ d s x h. sealed_of (InPlan T) (λ _. tt) d _ (λ k p e. (rest c g s h, subst (Points T) e x)))
    operate_in c g Labof = any c g _ (λ d s x h. handle_of (InPlan T) (λ _. tt) d _ (λ k p e. (rest c g s h, subst (Points T) e x)))
    operate_in c g New = one_label c g _ (λ l s h. any (with_stack s c) (rest c g s h) _ (λ d t x k. (rest c g t k, x)))
    operate_in c g Read = any c g _ (λ d s x h. reference_of (InPlan T) (λ _. tt) d _ (λ k p e. (rest c g s h, subst (Points T) e x)))
    operate_in c g Write =
        any c g _ (λ e s x h. any (with_stack s c) (rest c g s h) _ (λ d t y k. reference_of (InPlan T) (λ _. tt) e _ (λ j p z. (rest c g t k, (subst (Points T) z x, y)))))
    operate_in c g (Block t n k) = one_label c g _ (λ l s h. (rest c g s h, tt))
    operate_in c g (Try h) =
        cond_one (InPlan T) (ltb (length c.frames) 8) (λ _. (record { stack = g.stack; locals = g.locals }, tt)) (λ _. tt)
    operate_in c g Done = drop_in c g c.frames
    operate_in c g Throw = one_number c g _ (λ n s h. (rest c g s h, tt))
    operate_in c g (Input i) = pushes_in c g _ c.stack (all_get_d T P.inputs i (number 0) inputs tt) g.stack

    pub plan_in : (c : Control) → Reach T c → (i : Instr) → InPlan T (plan P a c i)
    unfolding plan
    plan_in c g i =
        cond_one (InPlan T) (leb (arity i).takes (length c.stack))
        (λ _. cond_one (InPlan T) (leb (length c.stack - (arity i).takes + (arity i).leaves) 32) (λ _. operate_in c g i) (λ _. tt))
        (λ _. tt)
