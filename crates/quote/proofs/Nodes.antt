-- What an instruction's node costs, and where a path goes from it.
use mathlib.Core.Bool.{true, true≢false}
use mathlib.Core.List.{List, [], ◌∷◌, map}
use mathlib.Core.Logic.{◌⊎◌, inl, inr}
use mathlib.Core.Path.{◌≡◌, refl, sym, subst}
use Prim.Native.Nat.{ℕ, zero, suc, ◌+◌, ◌≤◌, ◌<◌}
use native.Mathlib.Omega.{arith}
use borrow.Author.Tests.{ltb-true}
use lib.ListN.{get_or}
use Rattle.model.specs.Decoding.{byte, u16, instrs, fetch, after}
use Rattle.model.specs.declared.Instr.{Instr}
use Rattle.model.specs.declared.Instr.TheVariants.{End, Push, Lab, Get, Set, Pop, Add, Sub, Less, Same, Jump, Ifz, Cur, Clr, Raise, Lower, Flows, Join, Meet, Seal, Open, Labof, New, Read, Write, Block, Try, Done, Throw, Input}
use Rattle.model.proofs.Landing.{Each, Lands}
use Rattle.formulas.specs.Lists.{among}
use Rattle.quote.specs.Quoting.{Node, node_is, goes_on, node, node_at, steps_at, places_at}
use Rattle.quote.proofs.Largest.{which}

-- ── an instruction that costs a step and goes on ──

-- it is none of those that do more
pub record Plain (x : Instr) : Type 0 where
  pub is_end : x ≡ End → ⊥
  pub is_jump : (t : ℕ) → x ≡ Jump t → ⊥
  pub is_ifz : (t : ℕ) → x ≡ Ifz t → ⊥
  pub is_seal : x ≡ Seal → ⊥
  pub is_new : x ≡ New → ⊥
  pub is_block : (t n k : ℕ) → x ≡ Block t n k → ⊥
  pub is_try : (t : ℕ) → x ≡ Try t → ⊥
  pub is_throw : x ≡ Throw → ⊥

pub plain_on : (i next : ℕ) (x : Instr) → Plain x → node i next x ≡ goes_on next
unfolding node
plain_on i next End r = absurd (r.is_end refl)
plain_on i next (Push t) r = refl
plain_on i next (Lab t) r = refl
plain_on i next (Get t) r = refl
plain_on i next (Set t) r = refl
plain_on i next Pop r = refl
plain_on i next Add r = refl
plain_on i next Sub r = refl
plain_on i next Less r = refl
plain_on i next Same r = refl
plain_on i next (Jump t) r = absurd (r.is_jump t refl)
plain_on i next (Ifz t) r = absurd (r.is_ifz t refl)
plain_on i next Cur r = refl
plain_on i next Clr r = refl
plain_on i next Raise r = refl
plain_on i next Lower r = refl
plain_on i next Flows r = refl
plain_on i next Join r = refl
plain_on i next Meet r = refl
plain_on i next Seal r = absurd (r.is_seal refl)
plain_on i next Open r = refl
plain_on i next Labof r = refl
plain_on i next New r = absurd (r.is_new refl)
plain_on i next Read r = refl
plain_on i next Write r = refl
plain_on i next (Block t n k) r = absurd (r.is_block t n k refl)
plain_on i next (Try t) r = absurd (r.is_try t refl)
plain_on i next Done r = refl
plain_on i next Throw r = absurd (r.is_throw refl)
plain_on i next (Input t) r = refl

-- ── its costs are small ──

abbrev sum : List ℕ → ℕ
sum [] = 0
sum (x ∷ xs) = x + sum xs

at_most_sum : (f : Instr → ℕ) (xs : List Instr) (op : ℕ) → f (get_or xs op End) ≤ f End + sum (map f xs)
at_most_sum f [] op = omega arith
at_most_sum f (x ∷ xs) zero = omega arith
at_most_sum f (x ∷ xs) (suc op) = omega (arith, at_most_sum f xs op)

module _ (code : List ℕ) (bytes : (i : ℕ) → byte code i < 256) where
  pub steps_small : (i : ℕ) → steps_at code i ≤ 70000
  unfolding node_at node fetch instrs u16
  steps_small i =
      omega (arith, at_most_sum (λ x. (node i (after code i) x).steps) (instrs code (i + 1)) (byte code i), bytes (i + 1 + 2), bytes (i + 1 + 2 + 1))

  pub places_small : (i : ℕ) → places_at code i ≤ 70000
  unfolding node_at node fetch instrs
  places_small i =
      omega (arith, at_most_sum (λ x. (node i (after code i) x).places) (instrs code (i + 1)) (byte code i), bytes (i + 1 + 4))

-- ── where a path goes ──

-- what holds of all the places that an instruction may go on at holds of its successors, which are ahead where check 11 passes
pub record Onward (N : ℕ → Type 0) (i : ℕ) (x : Node) : Type 0 where
  pub some : 1 ≤ x.steps
  pub each : Each (λ j. (i < j) × N j) x.successors

module _ (N : ℕ → Type 0) (i next : ℕ) (lt : i < next) where
  abbrev Goes : Instr → Type 0
  Goes x = (node i next x).ahead ≡ true → Lands N next x → Onward N i (node i next x)

  -- on with the next instruction
  on : {p : ℕ} → N next → Onward N i (node_is 1 p (next ∷ []) true)
  on h = record { some = omega arith; each = (lt, h) }

  pub node_onward : (x : Instr) → Goes x
  unfolding node
  node_onward End e h = record { some = omega arith; each = tt }
  node_onward (Push t) e h = on h
  node_onward (Lab t) e h = on h
  node_onward (Get t) e h = on h
  node_onward (Set t) e h = on h
  node_onward Pop e h = on h
  node_onward Add e h = on h
  node_onward Sub e h = on h
  node_onward Less e h = on h
  node_onward Same e h = on h
  node_onward (Jump t) e h = record { some = omega arith; each = (ltb-true i t e, h) }
  node_onward (Ifz t) e h = record { some = omega arith; each = ((ltb-true i t e, h.0), (lt, h.1)) }
  node_onward Cur e h = on h
  node_onward Clr e h = on h
  node_onward Raise e h = on h
  node_onward Lower e h = on h
  node_onward Flows e h = on h
  node_onward Join e h = on h
  node_onward Meet e h = on h
  node_onward Seal e h = on h
  node_onward Open e h = on h
  node_onward Labof e h = on h
  node_onward New e h = on h
  node_onward Read e h = on h
  node_onward Write e h = on h
  node_onward (Block t n k) e h = record { some = omega arith; each = (lt, h.1) }
  node_onward (Try t) e h = absurd (true≢false (sym e))
  node_onward Done e h = on h
  node_onward Throw e h = record { some = omega arith; each = tt }
  node_onward (Input t) e h = on h

-- what holds of each holds of one
pub each_among : (Q : ℕ → Type 0) (is : List ℕ) (j : ℕ) → Each Q is → among j is ≡ true → Q j
each_among Q [] j h e = absurd (true≢false (sym e))
each_among Q (i ∷ []) j h e = by (which j i [] e)
  where
    by : (j ≡ i) ⊎ (among j [] ≡ true) → Q j
    by (inl g) = subst Q (sym g) h
    by (inr g) = absurd (true≢false (sym g))
each_among Q (i ∷ k ∷ is) j h e = by (each_among Q (k ∷ is) j h.1) (which j i (k ∷ is) e)
  where
    by : (among j (k ∷ is) ≡ true → Q j) → (j ≡ i) ⊎ (among j (k ∷ is) ≡ true) → Q j
    by later (inl g) = subst Q (sym g) h.0
    by later (inr g) = later g
