-- Labels and records: the code's checks and effects are the definition's. y and x are the two values on top.
use mathlib.Core.Bool.{Bool, true, false, cond}
use mathlib.Core.Path.{◌≡◌, refl}
use mathlib.Core.List.{List}
use Prim.Native.Nat.{ℕ, ◌+◌, ◌≤◌}
use native.Mathlib.Omega.{arith}
use lib.Dec.{leb, ltb}
use borrow.Author.Tests.{leb-true, ltb-true}
use lib.ListN.{length}
use Rattle.labels.specs.declared.Label.{Label}
use Rattle.labels.specs.Order.{flow_test, flows, join}
use Rattle.model.specs.declared.Kind.{Kind}
use Rattle.model.specs.declared.Datum.{Datum}
use Rattle.model.specs.declared.Datum.TheVariants.{Label as Labelled}
use Rattle.model.specs.declared.Contents.{Contents}
use Rattle.model.specs.declared.Contents.TheVariants.{Value as Holds, Fault as Faulty}
use Rattle.model.specs.declared.Record.{Record}
use Rattle.std.specs.Prelude.{None, Some}
use Rattle.model.specs.State.{Slot, Control, Store, Runner, at, with_label}
use Rattle.model.specs.declared.Account.{Account}
use Rattle.model.specs.Operands.{raises, lowers, labels, opens, makes, writes, blocks}
use Rattle.model.specs.Effects.{Next, fail, check_flow, check_target, act, label_slot, open_slot, write_slot, yield}
use Rattle.operands.specs.Program.{program}
use Rattle.operands.specs.Tasks.{thrown, faulty}
use Rattle.operands.specs.declared.Decision.{Decision}
use Rattle.effects.specs.Decisions.{target_of, fault_or, passing, room_of, flowing, raise_of, lower_of, make_of, enter_of, yield_of, open_of, labelled_of, write_of}
use Rattle.effects.proofs.Taking.{less, Bounded, Fits, Good, fit, good_fault, good_cond}

module _ (code : List ℕ) (ls : List Label) (rs : List ℕ) (R : Runner) (c : Control) (a : Account) (σ : Store) (b : Bounded c a) where
  abbrev Does : Datum → Datum → Decision → Next → Type 0
  Does y x d n = Good code ls rs R c a σ y x d n

  pub fault : (y x : Datum) (f n : ℕ) → Does y x (thrown f n) (fail f n c a σ)
  fault y x f n = good_fault code ls rs R c a σ y x f n b

  -- 23 and 24
  pass_target : (y x : Datum) (l : Label) (d : Decision) (n : Next) → Does y x d n
      → Does y x (passing a.label a.clearance l d) (check_target (program code ls rs) l c a σ n)
  unfolding target_of program
  pass_target y x l d n g = test (flows a.label l) (flows l a.clearance) where
    below : ℕ
    below = flow_test a.label l

    above : ℕ
    above = flow_test l a.clearance

    test : (p q : Bool)
        → Does y x (fault_or (cond p (cond q None (Some (thrown 24 above))) (Some (thrown 23 below))) d)
        (cond p (cond q n (fail 24 above c a σ)) (fail 23 below c a σ))
    test true true = g
    test true false = fault y x 24 above
    test false q = fault y x 23 below

  -- one flow test, with the code of its fault
  pass_flow : (y x : Datum) (l m : Label) (f : ℕ) (d : Decision) (n : Next) → Does y x d n
      → Does y x (flowing f (flow_test l m) d) (check_flow (program code ls rs) l m f c a σ n)
  unfolding program
  pass_flow y x l m f d n g = good_cond code ls rs R c a σ y x (flows l m) (λ _. g) (λ _. fault y x f (flow_test l m))

  -- ── on a label ──

  module _ (x : Datum) (l : Label) where
    pub raise_good : 1 ≤ length c.stack → Does (Labelled l) x (raise_of a.label a.clearance l) (act (program code ls rs) R c (less 1 c) a σ (raises l))
    unfolding act program
    raise_good h =
        pass_flow (Labelled l) x (join a.label l) a.clearance 24 _ _ (record { there = h; fits = fit c a 1 0 b h (omega (arith, b.stack)); does = refl })

    pub lower_good : 1 ≤ length c.stack → Does (Labelled l) x (lower_of a.label a.clearance l) (act (program code ls rs) R c (less 1 c) a σ (lowers l))
    unfolding act program
    lower_good h =
        pass_flow (Labelled l) x a.label l 25 _ _
        (pass_flow (Labelled l) x l a.clearance 25 _ _
        (record { there = h; fits = fit c a 1 0 b h (omega (arith, b.stack)); does = refl }))

    pub make_good : (h : Kind) → 2 ≤ length c.stack → Does (Labelled l) x (make_of a h l) (act (program code ls rs) R c (less 2 c) a σ (makes h l x))
    unfolding act program
    make_good h q =
        pass_target (Labelled l) x l _ _
        (good_cond code ls rs R c a σ (Labelled l) x (ltb a.next a.limit)
        (λ e. let f : Fits (less 2 c) a 1 0 0 0 = fit c a 2 1 b q (omega (arith, b.stack)) in record { there = q; fits = record { room = f.room; free = f.free; held = f.held; places = omega (arith, ltb-true a.next a.limit e) }; does = refl })
        (λ _. fault (Labelled l) x 26 0))

    pub enter_good : (t n j : ℕ) → 1 ≤ length c.stack → Does (Labelled l) x (enter_of a l t n j) (act (program code ls rs) R c (less 1 c) a σ (blocks l t n j))
    unfolding act program room_of
    enter_good t n j h =
        pass_target (Labelled l) x l _ _
        (test (ltb a.depth 8) (leb n a.steps) (leb (a.next + 1 + j) a.limit)
        (λ u v w. record { there = h; fits = record { fits = fit c a 1 1 b h (omega (arith, b.stack)); deep = ltb-true a.depth 8 u; time = leb-true n a.steps v; room = leb-true (a.next + 1 + j) a.limit w }; does = refl })
        refl refl refl)
      where
        test : (u v w : Bool) {e : Decision} {m : Next} → (ltb a.depth 8 ≡ true → leb n a.steps ≡ true → leb (a.next + 1 + j) a.limit ≡ true → Does (Labelled l) x e m)
            → ltb a.depth 8 ≡ u → leb n a.steps ≡ v → leb (a.next + 1 + j) a.limit ≡ w
            → Does (Labelled l) x
            (fault_or (cond u (cond v (cond w None (Some (faulty 26))) (Some (faulty 27))) (Some (faulty 28))) e)
            (cond u (cond v (cond w m (fail 26 0 c a σ)) (fail 27 0 c a σ)) (fail 28 0 c a σ))
        test true true true g d s r = g d s r
        test true true false g d s r = fault (Labelled l) x 26 0
        test true false w g d s r = fault (Labelled l) x 27 0
        test false v w g d s r = fault (Labelled l) x 28 0

  -- ── on a handle ──

  module _ (y x : Datum) (p : ℕ) where
    pub open_good : 1 ≤ length c.stack → Does y x (open_of a.label a.clearance p (at σ p)) (act (program code ls rs) R c (less 1 c) a σ (opens p))
    unfolding act open_slot yield program
    open_good h = test (at σ p) refl where
      inner : (r : Record) (z : Contents) → at σ p ≡ Some r → r.contents ≡ z
          → Does y x (yield_of p z) (yield c (less 1 c) (with_label (join a.label r.label) a) σ z)
      inner r (Holds d) e f = record { there = h; fits = fit c a 1 1 b h (omega (arith, b.stack)); does = rw (e, f) }
      inner r (Faulty q n) e f = record { there = omega arith; fits = fit c a 0 0 b (omega arith) (omega (arith, b.stack)); does = rw e }

      test : (s : Slot) → at σ p ≡ s → Does y x (open_of a.label a.clearance p s) (open_slot (program code ls rs) c (less 1 c) a σ s)
      test None e = fault y x 33 0
      test (Some r) e = pass_flow y x (join a.label r.label) a.clearance 24 _ _ (inner r r.contents e refl)

    pub label_good : 1 ≤ length c.stack → Does y x (labelled_of p (at σ p)) (act (program code ls rs) R c (less 1 c) a σ (labels p))
    unfolding act label_slot
    label_good h = test (at σ p) refl where
      test : (s : Slot) → at σ p ≡ s → Does y x (labelled_of p s) (label_slot c (less 1 c) a σ s)
      test None e = fault y x 33 0
      test (Some r) e = record { there = h; fits = fit c a 1 1 b h (omega (arith, b.stack)); does = rw e }

    pub write_good : 2 ≤ length c.stack → Does y x (write_of a.label a.clearance p (at σ p)) (act (program code ls rs) R c (less 2 c) a σ (writes p x))
    unfolding act write_slot
    write_good h = test (at σ p) refl where
      test : (s : Slot) → at σ p ≡ s → Does y x (write_of a.label a.clearance p s) (write_slot (program code ls rs) c (less 2 c) a σ p x s)
      test None e = fault y x 33 0
      test (Some r) e = pass_target y x r.label _ _ (record { there = h; fits = fit c a 2 0 b h (omega (arith, b.stack)); does = rw e })
