-- The sweep, one instruction at a time, and the marks that it leaves.
use mathlib.Core.Bool.{Bool, true, false, cond, ◌&&◌, ◌||◌, or-false, or_assoc, or_comm}
use mathlib.Core.List.{List, [], ◌∷◌}
use mathlib.Core.Path.{◌≡◌, refl, sym, ap, ◌∙◌}
use Prim.Native.Nat.{ℕ, zero, suc, ◌+◌, ◌≤◌, ◌<◌}
use native.Mathlib.Omega.{arith}
use lib.Dec.{leb, ltb, eqb}
use lib.ListN.{length, get_or, set, replicate, length-set, length-replicate}
use lib.Seq.{get_or-set_same, get_or-set_other}
use borrow.Author.Tests.{ltb-true, eqb-true, eqb-false, lt-ltb, le-ltb, le-leb, lt-leb}
use Rattle.model.specs.Decoding.{byte, known, size, fetch, after}
use Rattle.model.proofs.Places.{blank}
use Rattle.formulas.specs.Lists.{among}
use Rattle.code_check.specs.Sweep.{sweep, starts, all, operands_ok, instr_ok}
use Rattle.code_check.specs.Marks.{mark, Marks}

-- the starts from place i on
abbrev pub from : List ℕ → ℕ → List ℕ
from code i = sweep (length code) code i

pub size_some : (op : ℕ) → 1 ≤ size op
unfolding size
size_some op = omega arith

module _ (code : List ℕ) where
  pub sweep_past : (f i : ℕ) → length code ≤ i → sweep f code i ≡ []
  unfolding sweep
  sweep_past zero i h = refl
  sweep_past (suc f) i h = rw (le-ltb i (length code) h)

  pub sweep_here : (f i : ℕ) → i < length code → sweep (suc f) code i ≡ i ∷ sweep f code (i + size (byte code i))
  unfolding sweep
  sweep_here f i h = rw (lt-ltb i (length code) h)

  -- more turns than there are places make no difference
  enough : (f g i : ℕ) → length code ≤ i + f → length code ≤ i + g → sweep f code i ≡ sweep g code i
  unfolding sweep
  enough zero g i p q = sym (sweep_past g i (omega arith))
  enough (suc f) zero i p q = sweep_past (suc f) i (omega arith)
  enough (suc f) (suc g) i p q =
      ap (λ (r : List ℕ). cond (ltb i (length code)) (i ∷ r) [])
      (enough f g (i + size (byte code i)) (omega (arith, size_some (byte code i))) (omega (arith, size_some (byte code i))))

  pub from_end : (i : ℕ) → length code ≤ i → from code i ≡ []
  from_end i h = sweep_past (length code) i h

  pub from_step : (i : ℕ) → i < length code → from code i ≡ i ∷ from code (i + size (byte code i))
  from_step i h = enough (length code) (suc (length code)) i (omega arith) (omega arith) ∙ sweep_here (length code) i h

  pub after_step : (i : ℕ) → i < length code → after code i ≡ i + size (byte code i)
  unfolding after
  after_step i h = rw (lt-ltb i (length code) h)

-- ── marks ──

set_mark : (ms : List Bool) (i t : ℕ) → i < length ms → get_or (set ms i true) t false ≡ (eqb t i || get_or ms t false)
set_mark ms i t h = go (eqb t i) refl where
  go : (b : Bool) → eqb t i ≡ b → get_or (set ms i true) t false ≡ (b || get_or ms t false)
  go true e = rw (eqb-true t i e) (get_or-set_same ms i true false h)
  go false e = get_or-set_other ms i t true false (eqb-false t i e)

module _ (code : List ℕ) (t : ℕ) where
  marked : (f i : ℕ) (ms : List Bool) → length code ≤ length ms → get_or (mark (sweep f code i) ms) t false ≡ (among t (sweep f code i) || get_or ms t false)
  unfolding sweep
  marked zero i ms h = refl
  marked (suc f) i ms h = go (ltb i (length code)) refl (marked f (i + size (byte code i)) (set ms i true) (rw (length-set ms i true) h)) where
    go : (b : Bool) → ltb i (length code) ≡ b
        → get_or (mark (sweep f code (i + size (byte code i))) (set ms i true)) t false ≡ (among t (sweep f code (i + size (byte code i))) || get_or (set ms i true) t false)
        → get_or (mark (cond b (i ∷ sweep f code (i + size (byte code i))) []) ms) t false ≡ (among t (cond b (i ∷ sweep f code (i + size (byte code i))) []) || get_or ms t false)
    go true e r =
        let inside : i < length ms = omega (arith, ltb-true i (length code) e) in
        let later = among t (sweep f code (i + size (byte code i))) in
        r ∙ ap (λ (x : Bool). later || x) (set_mark ms i t inside)
        ∙ sym (or_assoc later (eqb t i) (get_or ms t false)) ∙ ap (λ (x : Bool). x || get_or ms t false) (or_comm later (eqb t i))
    go false e r = refl

pub starts_marked : (code : List ℕ) (n : ℕ) → length code ≤ n → (ms : List Bool) → ms ≡ mark (starts code) (replicate n false) → Marks ms (starts code)
unfolding starts
starts_marked code n h ms e =
    let long : length code ≤ length (replicate n false) = rw length-replicate h in
    record {
      at = λ t. ap (λ (bs : List Bool). get_or bs t false) e ∙ marked code t (length code) 0 (replicate n false) long
          ∙ ap (λ (x : Bool). among t (from code 0) || x) (blank n t false) ∙ or-false (among t (from code 0));
    }

-- ── the instructions ──

module _ (l c : ℕ) (code : List ℕ) (i : ℕ) (inside : i < length code) where
  abbrev rest : Bool
  rest = all (instr_ok l c code) (from code (after code i))

  first : all (instr_ok l c code) (from code i) ≡ (instr_ok l c code i && rest)
  first = rw (after_step code i inside) (ap (all (instr_ok l c code)) (from_step code i inside))

  pub goes_ahead : i < after code i
  goes_ahead = rw (after_step code i inside) (omega (arith, size_some (byte code i)))

  pub unknown_stops : known (byte code i) ≡ false → false ≡ all (instr_ok l c code) (from code i)
  unfolding instr_ok
  unknown_stops k = rw (first, k)

  module _ (k : known (byte code i) ≡ true) where
    pub cut_stops : length code < after code i → false ≡ all (instr_ok l c code) (from code i)
    unfolding instr_ok
    cut_stops h = rw (first, k, lt-leb (i + size (byte code i)) (length code) (rw (after_step code i inside) at h))

    module _ (h : after code i ≤ length code) where
      abbrev whole : leb (i + size (byte code i)) (length code) ≡ true
      whole = le-leb (i + size (byte code i)) (length code) (rw (after_step code i inside) at h)

      pub operands_stop : operands_ok l c (starts code) (fetch code i) ≡ false → false ≡ all (instr_ok l c code) (from code i)
      unfolding instr_ok
      operands_stop o = rw (first, k, whole, o)

      pub goes_on : operands_ok l c (starts code) (fetch code i) ≡ true → all (instr_ok l c code) (from code i) ≡ rest
      unfolding instr_ok
      goes_on o = rw (first, k, whole, o)
