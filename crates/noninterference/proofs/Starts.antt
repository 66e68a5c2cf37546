-- Check 7: in code that passes it, the places that a run goes to from an instruction's start are starts.
use mathlib.Core.Bool.{Bool, true, false, true≢false, ◌||◌, and-eq-true_iff, or-eq-true_iff}
use mathlib.Core.List.{List, [], ◌∷◌}
use mathlib.Core.Logic.Or
use mathlib.Core.Logic.{◌⊎◌, inl, inr}
use mathlib.Core.Path.{◌≡◌, refl, sym, ap, ◌∙◌, subst}
use Prim.Native.Nat.{ℕ, zero, suc, ◌+◌, ◌≤◌, ◌<◌}
use native.Mathlib.Omega.{arith}
use lib.Dec.{leb, ltb, eqb}
use borrow.Author.Tests.{ltb-true, ltb-false, leb-true, eqb-true, eq-eqb}
use lib.ListN.{length, get_or}
use Rattle.model.specs.Decoding.{byte, known, size, instrs, fetch, after}
use Rattle.model.specs.declared.Instr.{Instr}
use Rattle.model.specs.declared.Instr.TheVariants.{End, Push, Lab, Get, Set, Pop, Add, Sub, Less, Same, Jump, Ifz, Cur, Clr, Raise, Lower, Flows, Join, Meet, Seal, Open, Labof, New, Read, Write, Block, Try, Done, Throw, Input}
use Rattle.model.proofs.Landing.{Lands}
use Rattle.formulas.specs.Lists.{among}
use Rattle.code_check.specs.Sweep.{sweep, starts, all, operands_ok, instr_ok, may_be_last, last_of, code_ok}
use Rattle.code_check.proofs.Starts.{size_some, sweep_past, sweep_here, after_step}

-- ── tests ──

pub either : (s t : Bool) → (s || t) ≡ true → (s ≡ true) ⊎ (t ≡ true)
either true t e = inl refl
either false t e = inr e

-- what holds of all holds of each
pub all_among : (f : ℕ → Bool) (is : List ℕ) (t : ℕ) → all f is ≡ true → among t is ≡ true → f t ≡ true
all_among f [] t e h = absurd (true≢false (sym h))
all_among f (i ∷ is) t e h = one (all_among f is t ((and-eq-true_iff (f i) (all f is)).0 e).1) (either (eqb t i) (among t is) h)
  where
    one : (among t is ≡ true → f t ≡ true) → (eqb t i ≡ true) ⊎ (among t is ≡ true) → f t ≡ true
    one later (inl g) = ap f (eqb-true t i g) ∙ ((and-eq-true_iff (f i) (all f is)).0 e).0
    one later (inr g) = later g

-- ── the sweep ──

module _ (code : List ℕ) where
  -- with fuel for the bytes left, a place in the code is the first of its sweep
  sweep_head : (f i : ℕ) → length code ≤ f + i → i < length code → among i (sweep f code i) ≡ true
  sweep_head zero i le lt = absurd (omega arith)
  sweep_head (suc f) i le lt = rw (sweep_here code f i lt, eq-eqb i i refl)

  -- behind a start there is a start, or it is the last
  abbrev Follows : ℕ → List ℕ → ℕ → Type 0
  Follows d is i = (among (i + size (byte code i)) is ≡ true) ⊎ (last_of d is ≡ i)

  sweep_next : (f d j i : ℕ) → length code ≤ f + j → among i (sweep f code j) ≡ true → Follows d (sweep f code j) i
  unfolding sweep
  sweep_next zero d j i le h = absurd (true≢false (sym h))
  sweep_next (suc f) d j i le h = inside (sweep_next f j (j + size (byte code j)) i more) (ltb j (length code)) refl
    where
      k : ℕ
      k = j + size (byte code j)

      more : length code ≤ f + k
      more = omega (arith, size_some (byte code j))

      rest : List ℕ
      rest = sweep f code k

      -- j itself
      itself : (t : Bool) → ltb k (length code) ≡ t → Follows d (j ∷ rest) j
      itself true e = inl ((or-eq-true_iff (eqb k j) (among k rest)).1 (Or.inr (sweep_head f k more (ltb-true k (length code) e))))
      itself false e = inr (ap (last_of j) (sweep_past code f k (ltb-false k (length code) e)))

      later : Follows j rest i → Follows d (j ∷ rest) i
      later (inl g) = inl ((or-eq-true_iff (eqb (i + size (byte code i)) j) (among (i + size (byte code i)) rest)).1 (Or.inr g))
      later (inr g) = inr g

      one : (among i rest ≡ true → Follows j rest i) → (eqb i j ≡ true) ⊎ (among i rest ≡ true) → Follows d (j ∷ rest) i
      one next (inl g) = subst (Follows d (j ∷ rest)) (sym (eqb-true i j g)) (itself (ltb k (length code)) refl)
      one next (inr g) = later (next g)

      inside : (among i rest ≡ true → Follows j rest i) → (t : Bool) → ltb j (length code) ≡ t → Follows d (sweep (suc f) code j) i
      inside next true e =
          let first = sweep_here code f j (ltb-true j (length code) e) in
          subst (λ (is : List ℕ). Follows d is i) (sym first)
          (one next (either (eqb i j) (among i rest) (subst (λ (is : List ℕ). among i is ≡ true) first h)))
      inside next false e =
          absurd (true≢false (sym (subst (λ (is : List ℕ). among i is ≡ true) (sweep_past code (suc f) j (ltb-false j (length code) e)) h)))

-- ── where code goes ──

-- if the instruction behind is a start, check 7 of the operands is all that is left to ask
lands_next : (l c n : ℕ) (is : List ℕ) (i : Instr) → operands_ok l c is i ≡ true → among n is ≡ true → Lands (λ t. among t is ≡ true) n i
unfolding operands_ok
lands_next l c n is End e h = tt
lands_next l c n is Throw e h = tt
lands_next l c n is (Jump t) e h = e
lands_next l c n is (Ifz t) e h = (e, h)
lands_next l c n is (Block t s k) e h = (e, h)
lands_next l c n is (Try t) e h = (e, h)
lands_next l c n is i e h = h

module _ (l c : ℕ) (code : List ℕ) (ok : code_ok l c code ≡ true) where
  -- a place where an instruction starts
  abbrev Start : ℕ → Type 0
  Start pc = among pc (starts code) ≡ true

  -- it passes check 7
  pub start_ok : (pc : ℕ) → Start pc → instr_ok l c code pc ≡ true
  unfolding code_ok
  start_ok pc h =
      all_among (instr_ok l c code) (starts code) pc
      ((and-eq-true_iff (all (instr_ok l c code) (starts code)) (may_be_last (byte code (last_of 0 (starts code))))).0 ok).0 h

  -- its bytes are the code's, and its operands within their limits
  start_fits : (pc : ℕ) → Start pc → (pc + size (byte code pc) ≤ length code) × (operands_ok l c (starts code) (fetch code pc) ≡ true)
  unfolding instr_ok
  start_fits pc h =
      let fits = (and-eq-true_iff (leb (pc + size (byte code pc)) (length code)) _).0 ((and-eq-true_iff (known (byte code pc)) _).0 (start_ok pc h)).1 in
      (leb-true (pc + size (byte code pc)) (length code) fits.0, fits.1)

  start_next : (pc : ℕ) → Start pc → Follows code 0 (starts code) pc
  unfolding starts
  start_next pc h = sweep_next code (length code) 0 0 pc (omega arith) h

  after_is : (pc : ℕ) → Start pc → after code pc ≡ pc + size (byte code pc)
  after_is pc h = after_step code pc (omega (arith, (start_fits pc h).0, size_some (byte code pc)))

  -- the last instruction is END, JUMP or THROW
  last_lands : (pc : ℕ) → Start pc → may_be_last (byte code pc) ≡ true → Lands Start (after code pc) (fetch code pc)
  unfolding may_be_last fetch instrs operands_ok
  last_lands pc h e = by (either (eqb (byte code pc) 0x00) (eqb (byte code pc) 0x0A || eqb (byte code pc) 0x1C) e)
    where
      -- the instruction with an opcode, here
      with_opcode : ℕ → Instr
      with_opcode op = get_or (instrs code (pc + 1)) op End

      by_opcode : (op : ℕ) → byte code pc ≡ op → Lands Start (after code pc) (with_opcode op) → Lands Start (after code pc) (fetch code pc)
      by_opcode op g x = subst (λ (o : ℕ). Lands Start (after code pc) (with_opcode o)) (sym g) x

      by_two : (eqb (byte code pc) 0x0A ≡ true) ⊎ (eqb (byte code pc) 0x1C ≡ true) → Lands Start (after code pc) (fetch code pc)
      by_two (inl g) =
          let jumps = eqb-true (byte code pc) 0x0A g in
          by_opcode 0x0A jumps (subst (λ (o : ℕ). operands_ok l c (starts code) (with_opcode o) ≡ true) jumps (start_fits pc h).1)
      by_two (inr g) = by_opcode 0x1C (eqb-true (byte code pc) 0x1C g) tt

      by : (eqb (byte code pc) 0x00 ≡ true) ⊎ ((eqb (byte code pc) 0x0A || eqb (byte code pc) 0x1C) ≡ true)
          → Lands Start (after code pc) (fetch code pc)
      by (inl g) = by_opcode 0x00 (eqb-true (byte code pc) 0x00 g) tt
      by (inr g) = by_two (either (eqb (byte code pc) 0x0A) (eqb (byte code pc) 0x1C) g)

  pub lands : (pc : ℕ) → Start pc → Lands Start (after code pc) (fetch code pc)
  unfolding code_ok
  lands pc h = by (start_next pc h)
    where
      by : Follows code 0 (starts code) pc → Lands Start (after code pc) (fetch code pc)
      by (inl g) =
          lands_next l c (after code pc) (starts code) (fetch code pc) (start_fits pc h).1
          (ap (λ (p : ℕ). among p (starts code)) (after_is pc h) ∙ g)
      by (inr g) =
          last_lands pc h
          (subst (λ (p : ℕ). may_be_last (byte code p) ≡ true) g
          ((and-eq-true_iff (all (instr_ok l c code) (starts code)) (may_be_last (byte code (last_of 0 (starts code))))).0 ok).1)

  -- a run starts at one
  pub start_zero : 1 ≤ length code → Start 0
  unfolding starts
  start_zero n = sweep_head code (length code) 0 (omega arith) n
