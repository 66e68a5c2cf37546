-- Operands as the definition pops them, and its faults 20 and 21, in the code's terms.
use mathlib.Core.Bool.{Bool, true, false, cond}
use mathlib.Core.Path.{◌≡◌, refl, sym, ap, ◌∙◌}
use mathlib.Core.List.{List, [], ◌∷◌}
use Prim.Native.Nat.{ℕ, ◌+◌, ◌-◌, ◌≤◌}
use native.Mathlib.Omega.{arith}
use lib.Dec.{leb, ltb}
use borrow.Author.Tests.{le-leb, lt-leb, ltb-true, ltb-false}
use lib.ListN.{length, get_or, drop}
use Rattle.model.specs.declared.Datum.{Datum}
use Rattle.model.specs.declared.Value.{Value}
use Rattle.model.specs.declared.Instr.{Instr}
use Rattle.model.specs.State.{Control, Program, number, with_stack}
use Rattle.model.specs.declared.Account.{Account}
use Rattle.model.specs.Operands.{Plan, faults, pop_from, pop, arity, arity_is, operate, plan}
use Rattle.effects.proofs.Taking.{less}

-- the two values on top, as far as they are there
pub record Tops (c : Control) (y x : Datum) : Type 0 where
  pub first : 1 ≤ length c.stack → y ≡ (get_or c.stack 0 (number 0)).datum
  pub second : 2 ≤ length c.stack → x ≡ (get_or c.stack 1 (number 0)).datum

module _ (c : Control) (y x : Datum) (t : Tops c y x) where
  pub pop_one : (k : Datum → Control → Plan) → 1 ≤ length c.stack → pop c k ≡ k y (less 1 c)
  unfolding pop_from
  pop_one k h = go c.stack h ∙ ap (λ (d : Datum). k d (less 1 c)) (sym (t.first h)) where
    go : (s : List Value) → 1 ≤ length s → pop_from c s k ≡ k (get_or s 0 (number 0)).datum (with_stack (drop 1 s) c)
    go [] q = absurd (omega arith)
    go (v ∷ s) q = refl

  -- the second, with the first gone
  pub pop_below : (k : Datum → Control → Plan) → 2 ≤ length c.stack → pop (less 1 c) k ≡ k x (less 2 c)
  unfolding pop_from
  pop_below k h = go c.stack h ∙ ap (λ (d : Datum). k d (less 2 c)) (sym (t.second h)) where
    go : (s : List Value) → 2 ≤ length s → pop_from (with_stack (drop 1 s) c) (drop 1 s) k ≡ k (get_or s 1 (number 0)).datum (with_stack (drop 2 s) c)
    go [] q = absurd (omega arith)
    go (v ∷ []) q = absurd (omega arith)
    go (v ∷ (u ∷ s)) q = refl

module _ (P : Program) (a : Account) (c : Control) (i : Instr) (few : length c.stack ≤ 32) where
  -- an instruction that takes k values and leaves no more
  pub plan_takes : (k l : ℕ) → arity i ≡ arity_is k l → l ≤ k → plan P a c i ≡ cond (ltb (length c.stack) k) (faults 20) (operate P a c i)
  unfolding plan
  plan_takes k l e h = rw e (test (ltb (length c.stack) k) refl) where
    test : (z : Bool) → ltb (length c.stack) k ≡ z
        → cond (leb k (length c.stack)) (cond (leb (length c.stack - k + l) 32) (operate P a c i) (faults 21)) (faults 20) ≡ cond z (faults 20) (operate P a c i)
    test true z = rw (lt-leb k (length c.stack) (ltb-true (length c.stack) k z))
    test false z =
        let there : k ≤ length c.stack = ltb-false (length c.stack) k z in
        rw (le-leb k (length c.stack) there, le-leb (length c.stack - k + l) 32 (omega (arith, there, few, h)))

  -- one that takes none and leaves l, for which m is the last height with room
  pub plan_leaves : (l m : ℕ) → arity i ≡ arity_is 0 l → m + l ≡ 32 → plan P a c i ≡ cond (ltb m (length c.stack)) (faults 21) (operate P a c i)
  unfolding plan
  plan_leaves l m e h = rw (e, le-leb 0 (length c.stack) (omega arith)) (test (ltb m (length c.stack)) refl) where
    test : (z : Bool) → ltb m (length c.stack) ≡ z → cond (leb (length c.stack - 0 + l) 32) (operate P a c i) (faults 21) ≡ cond z (faults 21) (operate P a c i)
    test true z = rw (lt-leb (length c.stack - 0 + l) 32 (omega (arith, ltb-true m (length c.stack) z, h)))
    test false z = rw (le-leb (length c.stack - 0 + l) 32 (omega (arith, ltb-false m (length c.stack) z, h)))

  -- one that takes and leaves none
  pub plan_plain : arity i ≡ arity_is 0 0 → plan P a c i ≡ operate P a c i
  unfolding plan
  plan_plain e = rw (e, le-leb 0 (length c.stack) (omega arith), le-leb (length c.stack - 0 + 0) 32 (omega (arith, few)))
