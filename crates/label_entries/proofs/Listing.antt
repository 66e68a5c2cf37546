-- Steps of the loops over the masks that count and write the clauses of a table. Assumes nothing.
use mathlib.Core.Path.{◌≡◌, refl, sym, ap, ap₂, ◌∙◌}
use mathlib.Core.Bool.{Bool, true, false, not}
use mathlib.Core.Logic.{⊎_elim}
use mathlib.Core.List.{List, [], ◌∷◌, ◌++◌, append_assoc, append-nil}
use Prim.Native.Nat.{ℕ, zero, suc, ◌+◌, ◌-◌, ◌≤◌, ◌<◌}
use native.Mathlib.Numerals.{add-one}
use native.Mathlib.Omega.{arith}
use lib.ListN.{length, take, set, length-append, length-set}
use lib.Seq.{take-suc-set, length-take-le, take_all}
use lib.Dec.{T_not}
use Rattle.formulas.specs.Bits.{bit}
use Rattle.formulas.specs.Normal.{all_below, passes_with, maximal_false, cons_if, selected, clauses}
use Rattle.formulas.proofs.Lists.{all_below_at}
use Rattle.formulas.proofs.Tests.{T_left, T_right, T_or, T_eq}
use Rattle.labels.specs.Tables.{principals}

-- the mask c is listed
abbrev lists : ℕ → ℕ → Bool
lists t c = maximal_false principals t (255 - c)

-- the clauses of t from the mask c on
pub from : ℕ → ℕ → List ℕ
from t c = selected (lists t) c (256 - c)

from_start : (t : ℕ) → from t 0 ≡ clauses principals t
unfolding from clauses
from_start t = refl

from_step : (t c : ℕ) (b : Bool) → c < 256 → lists t c ≡ b → from t c ≡ cons_if b c (from t (c + 1))
unfolding from
from_step t c b h e =
    ap (selected (lists t) c) (let q : 256 - c ≡ suc (256 - (c + 1)) = omega arith in q)
    ∙ ap₂ (λ (x : Bool) (k : ℕ). cons_if x c (selected (lists t) k (256 - (c + 1)))) e (sym (add-one c))

from_end : (t c : ℕ) → 256 ≤ c → from t c ≡ []
unfolding from
from_end t c h = ap (selected (lists t) c) (let q : 256 - c ≡ 0 = omega arith in q)

cons_if_short : (b : Bool) (c : ℕ) (l : List ℕ) (k : ℕ) → length l ≤ k → length (cons_if b c l) ≤ suc k
cons_if_short true c l k h = omega arith
cons_if_short false c l k h = omega arith

selected_short : (f : ℕ → Bool) (k lo : ℕ) → length (selected f lo k) ≤ k
selected_short f zero lo = omega arith
selected_short f (suc k) lo = cons_if_short (f lo) lo (selected f (suc lo) k) k (selected_short f k (suc lo))

-- the set of all principals and the one without principal 0 are not both maximal false points
not_both : (t : ℕ) → lists t 0 ≡ true → lists t 1 ≡ true → ⊥
unfolding maximal_false bit
not_both t e f =
    let all = T_left (not (bit t 255)) (all_below principals (passes_with t 255)) (T_eq (sym e) tt) in
    let added = all_below_at principals (passes_with t 254) 0 (T_right (not (bit t 254)) (all_below principals (passes_with t 254)) (T_eq (sym f) tt)) (omega arith) in
    ⊎_elim (λ u. absurd u) (λ u. T_not (bit t 255) all u) (T_or (bit 254 0) (bit t 255) added)

-- a list of clauses has fewer than there are masks, whatever the table: its length fits a byte
pub clauses_short : (t : ℕ) → length (clauses principals t) ≤ 255
unfolding clauses
clauses_short t = go (lists t 0) (lists t 1) refl refl
  where
    rest : List ℕ
    rest = selected (lists t) 2 254

    short : length rest ≤ 254
    short = selected_short (lists t) 254 2

    go : (x y : Bool) → lists t 0 ≡ x → lists t 1 ≡ y → length (cons_if (lists t 0) 0 (cons_if (lists t 1) 1 rest)) ≤ 255
    go true true e f = absurd (not_both t e f)
    go true false e f = rw f (cons_if_short (lists t 0) 0 rest 254 short)
    go false y e f = rw e (cons_if_short (lists t 1) 1 rest 254 short)

-- ---- counting: the masks below c are passed, and n of them listed

pub record Counting (t n c : ℕ) : Type 0 where
  pub last : c ≤ 256
  pub passed : n ≤ c
  pub done : n + length (from t c) ≡ length (clauses principals t)

pub count_start : (t : ℕ) → Counting t 0 0
count_start t = record { last = omega arith; passed = omega arith; done = omega (arith, ap length (from_start t)) }

module _ (t n c : ℕ) (w : Counting t n c) (h : c < 256) where
  pub count_on : lists t c ≡ false → Counting t n (c + 1)
  count_on e = record { last = omega arith; passed = omega (arith, w.passed); done = omega (arith, w.done, ap length (from_step t c false h e)) }

  pub count_one : lists t c ≡ true → Counting t (n + 1) (c + 1)
  count_one e = record { last = omega arith; passed = omega (arith, w.passed); done = omega (arith, w.done, ap length (from_step t c true h e)) }

pub count_end : (t n c : ℕ) → Counting t n c → 256 ≤ c → n ≡ length (clauses principals t)
count_end t n c w h = omega (arith, w.done, ap length (from_end t c h))

-- ---- writing: the masks below c are passed, and n of them written

pub record Writing (t : ℕ) (out : List ℕ) (n c : ℕ) : Type 0 where
  pub last : c ≤ 256
  pub room : n ≤ length out
  pub whole : length out ≡ length (clauses principals t)
  pub done : take n out ++ from t c ≡ clauses principals t

pub write_start : (t : ℕ) (out : List ℕ) → length out ≡ length (clauses principals t) → Writing t out 0 0
write_start t out h = record { last = omega arith; room = omega arith; whole = h; done = from_start t }

module _ (t : ℕ) (out : List ℕ) (n c : ℕ) (w : Writing t out n c) (h : c < 256) where
  -- what is left from c on, by the test's answer
  left : (b : Bool) → lists t c ≡ b → take n out ++ cons_if b c (from t (c + 1)) ≡ clauses principals t
  left b e = sym (ap (λ (l : List ℕ). take n out ++ l) (from_step t c b h e)) ∙ w.done

  pub write_on : lists t c ≡ false → Writing t out n (c + 1)
  write_on e = record { last = omega arith; room = w.room; whole = w.whole; done = left false e }

  pub has_room : lists t c ≡ true → n < length out
  has_room e =
      let q = sym (length-append (take n out) (c ∷ from t (c + 1))) ∙ ap length (left true e) in
      let k = length-take-le n out w.room in
      omega (arith, w.whole)

  pub write_one : (v : ℕ) → v ≡ c → lists t c ≡ true → Writing t (set out n v) (n + 1) (c + 1)
  write_one v p e =
      let r = has_room e in
      record {
        last = omega arith;
        room = rw length-set (omega arith);
        whole = length-set out n v ∙ w.whole;
        done =
            ap (λ (l : List ℕ). l ++ from t (c + 1))
            (ap (λ (k : ℕ). take k (set out n v)) (add-one n) ∙ take-suc-set out n v r ∙ ap (λ (x : ℕ). take n out ++ (x ∷ [])) p)
            ∙ append_assoc (take n out) (c ∷ []) (from t (c + 1)) ∙ left true e;
      }

pub write_end : (t : ℕ) (out : List ℕ) (n c : ℕ) → Writing t out n c → 256 ≤ c → out ≡ clauses principals t
write_end t out n c w h =
    sym (take_all n out (let q = length-take-le n out w.room in omega (arith, ap length all, w.whole))) ∙ all
  where
    all : take n out ≡ clauses principals t
    all = sym (append-nil (take n out)) ∙ ap (λ (l : List ℕ). take n out ++ l) (sym (from_end t c h)) ∙ w.done
