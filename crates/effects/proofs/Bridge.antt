-- What the code decides for an instruction does what the definition does, for every instruction.
use mathlib.Core.Bool.{Bool, true, false, cond}
use mathlib.Core.Path.{◌≡◌, refl, sym, ap, subst}
use mathlib.Core.List.{List, [], ◌∷◌}
use Prim.Native.Nat.{ℕ, ◌+◌, ◌-◌, ◌*◌, ◌^◌, ◌%◌, ◌≤◌}
use native.Mathlib.Omega.{arith}
use lib.Dec.{ltb, eqb, eqb-suc-zero}
use borrow.Author.Tests.{ltb-true, ltb-false}
use lib.ListN.{length, drop}
use Rattle.labels.specs.declared.Label.{Label}
use Rattle.model.specs.declared.Kind.{Kind}
use Rattle.model.specs.declared.Kind.TheVariants.{Sealed, Reference}
use Rattle.model.specs.declared.Datum.{Datum}
use Rattle.model.specs.declared.Datum.TheVariants.{Number, Label as Labelled, Handle}
use Rattle.model.specs.declared.Frame.{Frame}
use Rattle.model.specs.declared.Instr.{Instr}
use Rattle.model.specs.declared.Instr.TheVariants.{End, Push, Lab, Get, Set, Pop, Add, Sub, Less, Same, Jump, Ifz, Cur, Clr, Raise, Lower, Flows, Join, Meet, Seal, Open, Labof, New, Read, Write, Block, Try, Done, Throw, Input}
use Rattle.model.specs.State.{Control, Store, Program, flows_in, Runner, jump, set_local, with_frames}
use Rattle.model.specs.declared.Account.{Account}
use Rattle.model.specs.Operands.{Plan, faults, asks, none, ends, throws, raises, lowers, labels, opens, makes, writes, blocks, as_number, as_label, as_handle, as_sealed, as_reference, drop_frame, arity, arity_is, operate, plan, pop, pop_number, pop_label, pushes, tried, truth}
use Rattle.model.specs.Effects.{go, act}
use Rattle.model.specs.Decoding.{byte}
use Rattle.model.specs.Inputs.{kind_of}
use Rattle.model.specs.Running.{perform}
use Rattle.operands.specs.Program.{program, count}
use Rattle.operands.proofs.Inputs.{input-at, input_at}
use Rattle.operands.specs.declared.Effect.{Effect}
use Rattle.operands.specs.declared.Effect.TheVariants.{Drop, Jump as Jumps, Number as Gives, Handle as GivesHandle, Try as Tries, Done as Leaves}
use Rattle.operands.specs.declared.Decision.{Decision}
use Rattle.operands.specs.declared.Arith.{Arith}
use Rattle.operands.specs.declared.Arith.TheVariants.{Add as Adds, Sub as Subs, Less as Lesser, Same as Equal}
use Rattle.operands.specs.declared.Test.TheVariants.{Branch, Throw as Throws}
use Rattle.operands.specs.declared.Pair.{Pair}
use Rattle.operands.specs.declared.Pair.TheVariants.{Flows as Flowing, Join as Joining, Meet as Meeting}
use Rattle.operands.specs.declared.OnLabel.{OnLabel}
use Rattle.operands.specs.declared.OnLabel.TheVariants.{Raise as Raises, Lower as Lowers, Make as Makes, Block as Blocks}
use Rattle.operands.specs.declared.OnHandle.TheVariants.{Open as Opens, Label as LabelOf, Write as Writes}
use Rattle.operands.specs.declared.Task.{Task}
use Rattle.operands.specs.declared.Task.TheVariants.{Do}
use Rattle.operands.specs.Tasks.{decided, faulty, on_number, arith_of, bit_of, numbers_of, test_of, pair_of, labels_of, short_of, push_of, input_of, task_of}
use Rattle.effects.specs.Decisions.{with_label_of, on_label, on_handle, decision_of}
use Rattle.effects.proofs.Taking.{less, Bounded, Fits, Good, fit}
use Rattle.effects.proofs.Popping.{Tops, pop_one, pop_below, plan_takes, plan_leaves, plan_plain}
use Rattle.effects.proofs.Checking.{fault as failed, raise_good, lower_good, make_good, enter_good, open_good, label_good, write_good}

module _ (code : List ℕ) (ls : List Label) (rs : List ℕ) (R : Runner) (c : Control) (a : Account) (σ : Store) (b : Bounded c a) where
  -- a decision does what the definition asks for
  abbrev Does : Datum → Datum → Decision → Plan → Type 0
  Does y x d p = Good code ls rs R c a σ y x d (perform (program code ls rs) R c a σ p)

  fault : (y x : Datum) (f : ℕ) → Does y x (faulty f) (faults f)
  unfolding perform
  fault y x f = failed code ls rs R c a σ b y x f 0

  -- ── numbers ──

  on-number : (y x : Datum) (m : ℕ → Decision) (q : ℕ → Plan) → ((n : ℕ) → Does y x (m n) (q n)) → (d : Datum) → Does y x (on_number d m) (as_number d q)
  unfolding as_number
  on-number y x m q g (Number n) = g n
  on-number y x m q g (Labelled l) = fault y x 22
  on-number y x m q g (Handle h p) = fault y x 22

  bit_good : (y x : Datum) (z : Bool) → 2 ≤ length c.stack → Does y x (bit_of z) (pushes (truth z) (less 2 c))
  unfolding perform act
  bit_good y x true h = record { there = h; fits = fit c a 2 1 b h (omega (arith, b.stack)); does = refl }
  bit_good y x false h = record { there = h; fits = fit c a 2 1 b h (omega (arith, b.stack)); does = refl }

  -- ── two labels ──

  pair_good : (f : Pair) (y x : Datum) (q : Label → Label → Plan) → ((m l : Label) → Does (Labelled m) (Labelled l) (pair_of f m l) (q m l))
      → Does y x (labels_of f y x) (as_label y (λ m. as_label x (λ l. q m l)))
  unfolding as_label
  pair_good f (Number n) x q g = fault (Number n) x 22
  pair_good f (Handle h p) x q g = fault (Handle h p) x 22
  pair_good f (Labelled m) (Number n) q g = fault (Labelled m) (Number n) 22
  pair_good f (Labelled m) (Labelled l) q g = g m l
  pair_good f (Labelled m) (Handle h p) q g = fault (Labelled m) (Handle h p) 22

  -- ── one label ──

  on-label : (f : OnLabel) (x : Datum) (q : Label → Plan) → ((l : Label) → Does (Labelled l) x (with_label_of f l a) (q l)) → (y : Datum) → Does y x (on_label f y a) (as_label y q)
  unfolding as_label
  on-label f x q g (Number n) = fault (Number n) x 22
  on-label f x q g (Labelled l) = g l
  on-label f x q g (Handle h p) = fault (Handle h p) x 22

  -- ── the instructions: y and x are the two values on top ──

  module _ (y x : Datum) (t : Tops c y x) where
    abbrev P : Program
    P = program code ls rs

    abbrev decides : Task → Decision
    decides p = decision_of p y x a σ

    abbrev height : ℕ
    height = length c.stack

    via : {d : Decision} {p q : Plan} → p ≡ q → Does y x d q → Does y x d p
    via {d} e g = subst (Does y x d) (sym e) g

    popped : {d : Decision} (k : Datum → Control → Plan) → 1 ≤ height → Does y x d (k y (less 1 c)) → Does y x d (pop c k)
    popped k h g = via (pop_one c y x t k h) g

    popped_below : {d : Decision} (k : Datum → Control → Plan) → 2 ≤ height → Does y x d (k x (less 2 c)) → Does y x d (pop (less 1 c) k)
    popped_below k h g = via (pop_below c y x t k h) g

    -- 20
    short_good : (i : Instr) (k l : ℕ) (p : Task) → arity i ≡ arity_is k l → l ≤ k → (k ≤ height → Does y x (decides p) (operate P a c i)) → Does y x (decides (short_of height k p)) (plan P a c i)
    short_good i k l p e h g = via (plan_takes P a c i b.stack k l e h) (test (ltb height k) refl) where
      test : (z : Bool) → ltb height k ≡ z → Does y x (decides (cond z (Do (faulty 20)) p)) (cond z (faults 20) (operate P a c i))
      test true z = fault y x 20
      test false z = g (ltb-false height k z)

    -- 21, where l values are left and m is the last height with room
    room_good : (i : Instr) (l m : ℕ) (p : Task) → arity i ≡ arity_is 0 l → m + l ≡ 32 → (height + l ≤ 32 → Does y x (decides p) (operate P a c i)) → Does y x (decides (cond (ltb m height) (Do (faulty 21)) p)) (plan P a c i)
    room_good i l m p e h g = via (plan_leaves P a c i b.stack l m e h) (test (ltb m height) refl) where
      test : (z : Bool) → ltb m height ≡ z → Does y x (decides (cond z (Do (faulty 21)) p)) (cond z (faults 21) (operate P a c i))
      test true z = fault y x 21
      test false z = g (omega (arith, ltb-false m height z, h))

    push_good : (i : Instr) (e : Effect) → arity i ≡ arity_is 0 1 → (Fits (less 0 c) a 1 0 0 0 → Does y x (decided 0 e) (operate P a c i)) → Does y x (decides (push_of height e)) (plan P a c i)
    push_good i e r g = room_good i 1 31 (Do (decided 0 e)) r (omega arith) (λ h. g (fit c a 0 1 b (omega arith) (omega (arith, h))))

    -- one operand, and nothing left
    fit_one : 1 ≤ height → Fits (less 1 c) a 0 0 0 0
    fit_one h = fit c a 1 0 b h (omega (arith, b.stack))

    -- two operands, and one value left
    fit_two : 2 ≤ height → Fits (less 2 c) a 1 0 0 0
    fit_two h = fit c a 2 1 b h (omega (arith, b.stack))

    two_numbers : (f : Arith) (k : ℕ → ℕ → Datum) → ((m n : ℕ) → Does y x (arith_of f m n) (pushes (k m n) (less 2 c))) → 2 ≤ height
        → Does y x (numbers_of f y x) (pop_number c (λ m r. pop_number r (λ n q. pushes (k m n) q)))
    two_numbers f k g h =
        popped (λ d r. as_number d (λ m. pop_number r (λ n q. pushes (k m n) q))) (omega (arith, h))
        (on-number y x (λ m. on_number x (arith_of f m)) (λ m. pop_number (less 1 c) (λ n q. pushes (k m n) q))
        (λ m. popped_below (λ d q. as_number d (λ n. pushes (k m n) q)) h (on-number y x (arith_of f m) (λ n. pushes (k m n) (less 2 c)) (g m) x)) y)

    two_labels : (f : Pair) (k : Label → Label → Datum) → ((m l : Label) → Does (Labelled m) (Labelled l) (pair_of f m l) (pushes (k m l) (less 2 c))) → 2 ≤ height
        → Does y x (labels_of f y x) (pop_label c (λ m r. pop_label r (λ l q. pushes (k m l) q)))
    unfolding as_label
    two_labels f k g h =
        popped (λ d r. as_label d (λ m. pop_label r (λ l q. pushes (k m l) q))) (omega (arith, h))
        (via (later y) (pair_good f y x (λ m l. pushes (k m l) (less 2 c)) g))
      where
        later : (d : Datum) → as_label d (λ m. pop_label (less 1 c) (λ l q. pushes (k m l) q)) ≡ as_label d (λ m. as_label x (λ l. pushes (k m l) (less 2 c)))
        later (Number n) = refl
        later (Labelled m) = pop_below c y x t (λ d q. as_label d (λ l. pushes (k m l) q)) h
        later (Handle e p) = refl

    -- OPEN and READ: a handle of the kind
    opens_good : (d : Datum) → 1 ≤ height → Does y x (on_handle (Opens Sealed) d a σ) (as_sealed d (λ p. asks (less 1 c) (opens p)))
    unfolding as_sealed perform
    opens_good (Number n) h = fault y x 22
    opens_good (Labelled l) h = fault y x 22
    opens_good (Handle Sealed p) h = open_good code ls rs R c a σ b y x p h
    opens_good (Handle Reference p) h = fault y x 22

    reads_good : (d : Datum) → 1 ≤ height → Does y x (on_handle (Opens Reference) d a σ) (as_reference d (λ p. asks (less 1 c) (opens p)))
    unfolding as_reference perform
    reads_good (Number n) h = fault y x 22
    reads_good (Labelled l) h = fault y x 22
    reads_good (Handle Sealed p) h = fault y x 22
    reads_good (Handle Reference p) h = open_good code ls rs R c a σ b y x p h

    labels_good : (d : Datum) → 1 ≤ height → Does y x (on_handle LabelOf d a σ) (as_handle d (λ p. asks (less 1 c) (labels p)))
    unfolding as_handle perform
    labels_good (Number n) h = fault y x 22
    labels_good (Labelled l) h = fault y x 22
    labels_good (Handle e p) h = label_good code ls rs R c a σ b y x p h

    writes_good : (d : Datum) → 2 ≤ height → Does y x (on_handle Writes d a σ) (as_reference d (λ p. asks (less 2 c) (writes p x)))
    unfolding as_reference perform
    writes_good (Number n) h = fault y x 22
    writes_good (Labelled l) h = fault y x 22
    writes_good (Handle Sealed p) h = fault y x 22
    writes_good (Handle Reference p) h = write_good code ls rs R c a σ b y x p h

    -- SEAL and NEW
    makes_good : (e : Kind) → 2 ≤ height → Does y x (on_label (Makes e) y a) (pop_label c (λ l r. pop r (λ d q. asks q (makes e l d))))
    unfolding as_label perform
    makes_good e h =
        popped (λ d r. as_label d (λ l. pop r (λ v q. asks q (makes e l v)))) (omega (arith, h))
        (via (later y) (on-label (Makes e) x (λ l. asks (less 2 c) (makes e l x)) (λ l. make_good code ls rs R c a σ b x l e h) y))
      where
        later : (d : Datum) → as_label d (λ l. pop (less 1 c) (λ v q. asks q (makes e l v))) ≡ as_label d (λ l. asks (less 2 c) (makes e l x))
        later (Number n) = refl
        later (Labelled l) = pop_below c y x t (λ v q. asks q (makes e l v)) h
        later (Handle k p) = refl

    done_good : (fs : List Frame) → c.frames ≡ fs → Does y x (decides (cond (eqb (length fs) 0) (Do (faulty 29)) (Do (decided 0 Leaves)))) (drop_frame c fs)
    unfolding drop_frame perform act
    done_good [] e = fault y x 29
    done_good (f ∷ fs) e =
        let held : 1 ≤ length c.frames = rw e (omega arith) in
        let g : Fits (less 0 c) a 0 0 0 0 = fit c a 0 0 b (omega arith) (omega (arith, b.stack)) in
        rw (eqb-suc-zero (length fs))
        (record {
          there = omega arith;
          fits = record { room = g.room; free = g.free; held = held; places = g.places };
          does = ap (λ (l : List Frame). go (with_frames (drop 1 l) c) a σ) e;
        })

    try_good : (h : ℕ) (z : Bool) → ltb (length c.frames) 8 ≡ z → height + 2 ≤ 32
        → Does y x (decides (cond z (Do (decided 0 (Tries h))) (Do (faulty 29))))
        (cond z (asks (with_frames (tried h a c ∷ c.frames) c) none) (faults 29))
    unfolding perform act
    try_good h true e r =
        let g : Fits (less 0 c) a 2 0 0 0 = fit c a 0 2 b (omega arith) (omega (arith, r)) in
        record { there = omega arith; fits = record { room = g.room; free = omega (arith, ltb-true (length c.frames) 8 e); held = g.held; places = g.places }; does = refl }
    try_good h false e r = fault y x 29

    input_good : (i : ℕ) → Fits (less 0 c) a 1 0 0 0 → Does y x (decided 0 (input_of rs i)) (pushes (input_at rs i) c)
    unfolding input_at perform act
    input_good i f = test (ltb i (count rs)) where
      test : (z : Bool) → Does y x (decided 0 (cond z (GivesHandle (kind_of (byte rs (6 * i))) i) (Gives 0))) (pushes (cond z (Handle (kind_of (byte rs (6 * i))) i) (Number 0)) c)
      test true = record { there = omega arith; fits = f; does = refl }
      test false = record { there = omega arith; fits = f; does = refl }

    branch_good : (h : ℕ) (n : ℕ) → 1 ≤ height → Does y x (test_of (Branch h) n) (asks (cond (eqb n 0) (jump h (less 1 c)) (less 1 c)) none)
    unfolding perform act
    branch_good h n o = test (eqb n 0) where
      test : (z : Bool) → Does y x (cond z (decided 1 (Jumps h)) (decided 1 Drop)) (asks (cond z (jump h (less 1 c)) (less 1 c)) none)
      test true = record { there = o; fits = fit_one o; does = refl }
      test false = record { there = o; fits = fit_one o; does = refl }

    -- every instruction
    pub decision_performs : (i : Instr) → Does y x (decides (task_of i height (length c.frames) rs)) (plan P a c i)
    unfolding task_of operate arity program perform act
    decision_performs End = short_good End 1 0 _ refl (omega arith) (λ h. popped (λ d r. asks r (ends d)) h (record { there = h; fits = fit_one h; does = refl }))
    decision_performs (Push n) = push_good (Push n) _ refl (λ f. record { there = omega arith; fits = f; does = refl })
    decision_performs (Lab i) = push_good (Lab i) _ refl (λ f. record { there = omega arith; fits = f; does = refl })
    decision_performs (Get i) = push_good (Get i) _ refl (λ f. record { there = omega arith; fits = f; does = refl })
    decision_performs (Set i) = short_good (Set i) 1 0 _ refl (omega arith) (λ h. popped (λ d r. asks (set_local i d r) none) h (record { there = h; fits = fit_one h; does = refl }))
    decision_performs Pop = short_good Pop 1 0 _ refl (omega arith) (λ h. popped (λ d r. asks r none) h (record { there = h; fits = fit_one h; does = refl }))
    decision_performs Add = short_good Add 2 1 _ refl (omega arith) (λ h. two_numbers Adds (λ m n. Number ((n + m) % 2 ^ 32)) (λ m n. record { there = h; fits = fit_two h; does = refl }) h)
    decision_performs Sub = short_good Sub 2 1 _ refl (omega arith) (λ h. two_numbers Subs (λ m n. Number ((n + 2 ^ 32 - m) % 2 ^ 32)) (λ m n. record { there = h; fits = fit_two h; does = refl }) h)
    decision_performs Less = short_good Less 2 1 _ refl (omega arith) (λ h. two_numbers Lesser (λ m n. truth (ltb n m)) (λ m n. bit_good y x (ltb n m) h) h)
    decision_performs Same = short_good Same 2 1 _ refl (omega arith) (λ h. two_numbers Equal (λ m n. truth (eqb n m)) (λ m n. bit_good y x (eqb n m) h) h)
    decision_performs (Jump h) = via (plan_plain P a c (Jump h) b.stack refl) (record { there = omega arith; fits = fit c a 0 0 b (omega arith) (omega (arith, b.stack)); does = refl })
    decision_performs (Ifz j) = short_good (Ifz j) 1 0 _ refl (omega arith)
        (λ h. popped (λ d r. as_number d (λ n. asks (cond (eqb n 0) (jump j r) r) none)) h (on-number y x (test_of (Branch j)) _ (λ n. branch_good j n h) y))
    decision_performs Cur = push_good Cur _ refl (λ f. record { there = omega arith; fits = f; does = refl })
    decision_performs Clr = push_good Clr _ refl (λ f. record { there = omega arith; fits = f; does = refl })
    decision_performs Raise = short_good Raise 1 0 _ refl (omega arith)
        (λ h. popped (λ d r. as_label d (λ l. asks r (raises l))) h (on-label Raises x (λ l. asks (less 1 c) (raises l)) (λ l. raise_good code ls rs R c a σ b x l h) y))
    decision_performs Lower = short_good Lower 1 0 _ refl (omega arith)
        (λ h. popped (λ d r. as_label d (λ l. asks r (lowers l))) h (on-label Lowers x (λ l. asks (less 1 c) (lowers l)) (λ l. lower_good code ls rs R c a σ b x l h) y))
    decision_performs Flows = short_good Flows 2 1 _ refl (omega arith) (λ h. two_labels Flowing (λ m l. truth (flows_in P l m)) (λ m l. bit_good (Labelled m) (Labelled l) (flows_in P l m) h) h)
    decision_performs Join = short_good Join 2 1 _ refl (omega arith) (λ h. two_labels Joining (λ m l. Labelled (P.join l m)) (λ m l. record { there = h; fits = fit_two h; does = refl }) h)
    decision_performs Meet = short_good Meet 2 1 _ refl (omega arith) (λ h. two_labels Meeting (λ m l. Labelled (P.meet l m)) (λ m l. record { there = h; fits = fit_two h; does = refl }) h)
    decision_performs Seal = short_good Seal 2 1 _ refl (omega arith) (λ h. makes_good Sealed h)
    decision_performs Open = short_good Open 1 1 _ refl (omega arith) (λ h. popped (λ d r. as_sealed d (λ p. asks r (opens p))) h (opens_good y h))
    decision_performs Labof = short_good Labof 1 1 _ refl (omega arith) (λ h. popped (λ d r. as_handle d (λ p. asks r (labels p))) h (labels_good y h))
    decision_performs New = short_good New 2 1 _ refl (omega arith) (λ h. makes_good Reference h)
    decision_performs Read = short_good Read 1 1 _ refl (omega arith) (λ h. popped (λ d r. as_reference d (λ p. asks r (opens p))) h (reads_good y h))
    decision_performs Write = short_good Write 2 0 _ refl (omega arith)
        (λ h. popped (λ e r. pop r (λ d q. as_reference e (λ p. asks q (writes p d)))) (omega (arith, h)) (popped_below (λ d q. as_reference y (λ p. asks q (writes p d))) h (writes_good y h)))
    decision_performs (Block j n k) = short_good (Block j n k) 1 1 _ refl (omega arith)
        (λ h. popped (λ d r. as_label d (λ l. asks r (blocks l j n k))) h (on-label (Blocks j n k) x (λ l. asks (less 1 c) (blocks l j n k)) (λ l. enter_good code ls rs R c a σ b x l j n k h) y))
    decision_performs (Try h) = room_good (Try h) 2 30 _ refl (omega arith) (λ r. try_good h (ltb (length c.frames) 8) refl r)
    decision_performs Done = via (plan_plain P a c Done b.stack refl) (done_good c.frames refl)
    decision_performs Throw = short_good Throw 1 0 _ refl (omega arith)
        (λ h. popped (λ d r. as_number d (λ n. asks r (throws n))) h (on-number y x (test_of Throws) (λ n. asks (less 1 c) (throws n)) (λ n. record { there = omega arith; fits = fit c a 0 0 b (omega arith) (omega (arith, b.stack)); does = refl }) y))
    decision_performs (Input i) = push_good (Input i) _ refl (λ f. via (ap (λ (d : Datum). pushes d c) (sym (input-at code ls rs i))) (input_good i f))
