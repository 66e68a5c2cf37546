-- What an instruction makes of its operands, under mapped labels: the same fault, or the same request mapped.
use Rattle.std.proofs.lemmas.List.{map-set}
use mathlib.Core.Bool.{Bool, true, false}
use mathlib.Core.List.{List, [], ◌∷◌, map}
use mathlib.Core.Path.{◌≡◌, refl, ap, ◌∙◌}
use Prim.Native.Nat.{ℕ, ◌+◌, ◌-◌}
use native.Mathlib.Omega.{arith}
use lib.Dec.{leb, ltb, eqb}
use lib.ListN.{length, get_or, length-map, get_or-map}
use Rattle.labels.specs.declared.Label.{Label}
use Rattle.model.specs.State.{Control, Program, flows_in, value, number, with_stack}
use Rattle.model.specs.declared.Account.{Account}
use Rattle.model.specs.Operands.{Request, none, ends, throws, raises, lowers, labels, opens, makes, writes, blocks, Plan, faults, asks, pop_from, as_number, as_label, as_handle, as_sealed, as_reference, pop, pop_number, pop_label, arity, pushes, truth, drop_frame, operate, plan}
use Rattle.model.specs.declared.Kind.TheVariants.{Sealed, Reference}
use Rattle.model.specs.declared.Datum.{Datum}
use Rattle.model.specs.declared.Datum.TheVariants.{Number, Label as Labelled, Handle}
use Rattle.model.specs.declared.Value.{Value}
use Rattle.model.specs.declared.Frame.{Frame}
use Rattle.model.specs.declared.Instr.{Instr}
use Rattle.model.specs.declared.Instr.TheVariants.{End, Push, Lab, Get, Set, Pop, Add, Sub, Less, Same, Jump, Ifz, Cur, Clr, Raise, Lower, Flows, Join, Meet, Seal, Open, Labof, New, Read, Write, Block, Try, Done, Throw, Input}
use Rattle.relabelling.specs.Relabelled.{datum_under, value_under, frame_under, control_under, account_under}
use Rattle.relabelling.specs.Keeps.{Keeps}
use Rattle.relabelling.proofs.Lists.{same_zero, cond_under}

module _ (h : Label → Label) where
  abbrev pub request_under : Request → Request
  request_under none = none
  request_under (ends d) = ends (datum_under h d)
  request_under (throws n) = throws n
  request_under (raises l) = raises (h l)
  request_under (lowers l) = lowers (h l)
  request_under (labels p) = labels p
  request_under (opens p) = opens p
  request_under (makes k l d) = makes k (h l) (datum_under h d)
  request_under (writes p d) = writes p (datum_under h d)
  request_under (blocks b t n k) = blocks (h b) t n k

  abbrev pub plan_under : Plan → Plan
  plan_under (faults code) = faults code
  plan_under (asks c q) = asks (control_under h c) (request_under q)

  -- ── operands: k goes on under the mapped labels, j under those that they are mapped from ──

  pop_from_under : (c : Control) (s : List Value) (k j : Datum → Control → Plan)
      → ((d : Datum) (r : Control) → k (datum_under h d) (control_under h r) ≡ plan_under (j d r))
      → pop_from (control_under h c) (map (value_under h) s) k ≡ plan_under (pop_from c s j)
  unfolding pop_from
  pop_from_under c [] k j e = refl
  pop_from_under c (v ∷ s) k j e = e v.datum (with_stack s c)

  pop_under : (c : Control) (k j : Datum → Control → Plan) → ((d : Datum) (r : Control) → k (datum_under h d) (control_under h r) ≡ plan_under (j d r))
      → pop (control_under h c) k ≡ plan_under (pop c j)
  pop_under c k j e = pop_from_under c c.stack k j e

  number_under : (d : Datum) (k j : ℕ → Plan) → ((n : ℕ) → k n ≡ plan_under (j n)) → as_number (datum_under h d) k ≡ plan_under (as_number d j)
  unfolding as_number
  number_under (Number n) k j e = e n
  number_under d k j e = refl

  label_under : (d : Datum) (k j : Label → Plan) → ((l : Label) → k (h l) ≡ plan_under (j l)) → as_label (datum_under h d) k ≡ plan_under (as_label d j)
  unfolding as_label
  label_under (Labelled l) k j e = e l
  label_under d k j e = refl

  handle_under : (d : Datum) (k j : ℕ → Plan) → ((p : ℕ) → k p ≡ plan_under (j p)) → as_handle (datum_under h d) k ≡ plan_under (as_handle d j)
  unfolding as_handle
  handle_under (Handle x p) k j e = e p
  handle_under d k j e = refl

  sealed_under : (d : Datum) (k j : ℕ → Plan) → ((p : ℕ) → k p ≡ plan_under (j p)) → as_sealed (datum_under h d) k ≡ plan_under (as_sealed d j)
  unfolding as_sealed
  sealed_under (Handle Sealed p) k j e = e p
  sealed_under d k j e = refl

  reference_under : (d : Datum) (k j : ℕ → Plan) → ((p : ℕ) → k p ≡ plan_under (j p)) → as_reference (datum_under h d) k ≡ plan_under (as_reference d j)
  unfolding as_reference
  reference_under (Handle Reference p) k j e = e p
  reference_under d k j e = refl

  pop_number_under : (c : Control) (k j : ℕ → Control → Plan) → ((n : ℕ) (r : Control) → k n (control_under h r) ≡ plan_under (j n r))
      → pop_number (control_under h c) k ≡ plan_under (pop_number c j)
  pop_number_under c k j e = pop_under c _ _ (λ d r. number_under d (λ n. k n (control_under h r)) (λ n. j n r) (λ n. e n r))

  pop_label_under : (c : Control) (k j : Label → Control → Plan) → ((l : Label) (r : Control) → k (h l) (control_under h r) ≡ plan_under (j l r))
      → pop_label (control_under h c) k ≡ plan_under (pop_label c j)
  pop_label_under c k j e = pop_under c _ _ (λ d r. label_under d (λ l. k l (control_under h r)) (λ l. j l r) (λ l. e l r))

  -- ── the shapes of instructions ──

  pushes_under : (c : Control) {d : Datum} (x : Datum) → d ≡ datum_under h x → pushes d (control_under h c) ≡ plan_under (pushes x c)
  pushes_under c x e = ap (λ (y : Datum). pushes y (control_under h c)) e

  truth_under : (t : Bool) → truth t ≡ datum_under h (truth t)
  truth_under true = refl
  truth_under false = refl

  two_numbers_under : (c : Control) (f : ℕ → ℕ → Datum) → ((x y : ℕ) → f x y ≡ datum_under h (f x y))
      → pop_number (control_under h c) (λ y r. pop_number r (λ x q. pushes (f x y) q)) ≡ plan_under (pop_number c (λ y r. pop_number r (λ x q. pushes (f x y) q)))
  two_numbers_under c f e = pop_number_under c _ _ (λ y r. pop_number_under r _ _ (λ x q. pushes_under q (f x y) (e x y)))

  two_labels_under : (c : Control) (f g : Label → Label → Datum) → ((l m : Label) → f (h l) (h m) ≡ datum_under h (g l m))
      → pop_label (control_under h c) (λ m r. pop_label r (λ l q. pushes (f l m) q)) ≡ plan_under (pop_label c (λ m r. pop_label r (λ l q. pushes (g l m) q)))
  two_labels_under c f g e = pop_label_under c _ _ (λ m r. pop_label_under r _ _ (λ l q. pushes_under q (g l m) (e l m)))

  -- the value at an index of locals or inputs
  value-under : (s : List Value) (i : ℕ) → (get_or (map (value_under h) s) i (number 0)).datum ≡ datum_under h (get_or s i (number 0)).datum
  value-under s i = ap (λ (v : Value). v.datum) (get_or-map (value_under h) s i (number 0))

  drop_under : (c : Control) (fs : List Frame) → drop_frame (control_under h c) (map (frame_under h) fs) ≡ plan_under (drop_frame c fs)
  unfolding drop_frame
  drop_under c [] = refl
  drop_under c (f ∷ fs) = refl

  -- ── what h keeps, said of the two programs ──

  module _ (P Q : Program) (K : Keeps h P Q) where
    -- whether a label flows to another
    pub flows_under : (l m : Label) → flows_in Q (h l) (h m) ≡ flows_in P l m
    flows_under l m =
        let e = K.order.keeps_flow l m in
        same_zero (Q.flow_test (h l) (h m)) (P.flow_test l m) (λ z. omega (arith, e)) (λ z. omega (arith, e))

    -- which half keeps it from flowing: a fault's number
    pub half_under : (l m : Label) → Q.flow_test (h l) (h m) ≡ P.flow_test l m
    half_under l m = omega (arith, K.order.keeps_flow l m)

    pub join_under : (l m : Label) → Q.join (h l) (h m) ≡ h (P.join l m)
    join_under l m = K.order.keeps_join l m

  -- ── the instructions ──

  module _ (P Q : Program) (K : Keeps h P Q) (a : Account) where
    operate_under : (c : Control) (i : Instr) → operate Q (account_under h a) (control_under h c) i ≡ plan_under (operate P a c i)
    unfolding operate
    operate_under c End = pop_under c _ _ (λ d r. refl)
    operate_under c (Push n) = refl
    operate_under c (Lab i) = pushes_under c (Labelled (P.labels i)) (ap Labelled (K.mapped_labels i))
    operate_under c (Get i) = pushes_under c (get_or c.locals i (number 0)).datum (value-under c.locals i)
    operate_under c (Set i) = pop_under c _ _ (λ d r. rw (map-set (value_under h) r.locals i (value d)))
    operate_under c Pop = pop_under c _ _ (λ d r. refl)
    operate_under c Add = two_numbers_under c _ (λ x y. refl)
    operate_under c Sub = two_numbers_under c _ (λ x y. refl)
    operate_under c Less = two_numbers_under c _ (λ x y. truth_under (ltb x y))
    operate_under c Same = two_numbers_under c _ (λ x y. truth_under (eqb x y))
    operate_under c (Jump t) = refl
    operate_under c (Ifz t) = pop_number_under c _ _ (λ n r. ap (λ (x : Control). asks x none) (cond_under (control_under h) (eqb n 0) refl refl))
    operate_under c Cur = refl
    operate_under c Clr = refl
    operate_under c Raise = pop_label_under c _ _ (λ l r. refl)
    operate_under c Lower = pop_label_under c _ _ (λ l r. refl)
    operate_under c Flows = two_labels_under c _ _ (λ l m. ap truth (flows_under P Q K l m) ∙ truth_under (flows_in P l m))
    operate_under c Join = two_labels_under c _ _ (λ l m. ap Labelled (join_under P Q K l m))
    operate_under c Meet = two_labels_under c _ _ (λ l m. ap Labelled (K.order.keeps_meet l m))
    operate_under c Seal = pop_label_under c _ _ (λ l r. pop_under r _ _ (λ d q. refl))
    operate_under c Open = pop_under c _ _ (λ d r. sealed_under d _ _ (λ p. refl))
    operate_under c Labof = pop_under c _ _ (λ d r. handle_under d _ _ (λ p. refl))
    operate_under c New = pop_label_under c _ _ (λ l r. pop_under r _ _ (λ d q. refl))
    operate_under c Read = pop_under c _ _ (λ d r. reference_under d _ _ (λ p. refl))
    operate_under c Write = pop_under c _ _ (λ x r. pop_under r _ _ (λ d q. reference_under x _ _ (λ p. refl)))
    operate_under c (Block t n k) = pop_label_under c _ _ (λ l r. refl)
    operate_under c (Try t) =
        rw (length-map c.frames (frame_under h), length-map c.stack (value_under h))
        (cond_under plan_under (ltb (length c.frames) 8) refl refl)
    operate_under c Done = drop_under c c.frames
    operate_under c Throw = pop_number_under c _ _ (λ n r. refl)
    operate_under c (Input i) =
        pushes_under c (get_or P.inputs i (number 0)).datum
        (ap (λ (s : List Value). (get_or s i (number 0)).datum) K.mapped_inputs ∙ value-under P.inputs i)

    pub plan-under : (c : Control) (i : Instr) → plan Q (account_under h a) (control_under h c) i ≡ plan_under (plan P a c i)
    unfolding plan
    plan-under c i =
        rw (length-map c.stack (value_under h))
        (cond_under plan_under (leb (arity i).takes (length c.stack))
        (cond_under plan_under (leb (length c.stack - (arity i).takes + (arity i).leaves) 32) (operate_under c i) refl) refl)
