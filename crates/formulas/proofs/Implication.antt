-- Implication on tables, for tables of any width: it is an order, with AND as greatest lower and OR as least upper bound,
-- and it decides the implication of formulas. Assumes nothing.
use mathlib.Core.Path.{◌≡◌, refl, sym, ap, ◌∙◌}
use mathlib.Core.Bool.{Bool, true, false, not, ◌&&◌, false≢true}
use mathlib.Core.List.{List}
use mathlib.Core.Logic.{⊎_elim, ◌↔◌}
use Prim.Native.Nat.{ℕ, ◌-◌, ◌^◌, ◌≤◌, ◌<◌, zero-le}
use lib.Bits.{bit_and, bit_or, and_le_l}
use lib.Dec.{T, eqb, eqb→eq, eqb_refl}
use lib.Pow.{pow_pos}
use native.Mathlib.Nat.{lt_of_le_of_lt}
use native.Mathlib.Omega.{arith}
use Rattle.formulas.specs.Bits.{bit}
use Rattle.formulas.specs.Formula.{Entails, table, implies}
use Rattle.formulas.proofs.Bits.{bit-and, bit-or, same_bits, ext, bit_past, bit_complement}
use Rattle.formulas.proofs.Formula.{bit_table, table_lt}
use Rattle.formulas.proofs.Tests.{T_and, T_left, T_right, T_inl, T_inr, T_or, T_same, T_eq, lt_or_ge}

-- ---- the order

pub implies_at : (a b : ℕ) → T (implies a b) → (i : ℕ) → T (bit a i) → T (bit b i)
unfolding implies
implies_at a b h i t =
    T_right (bit a i) (bit b i) (T_eq (sym (ap (λ (x : ℕ). bit x i) (eqb→eq (bit_and a b) a h)) ∙ bit-and a b i) t)

pub at_implies : (a b : ℕ) → ((i : ℕ) → T (bit a i) → T (bit b i)) → T (implies a b)
unfolding implies
at_implies a b h =
    T_eq (ap (λ (x : ℕ). eqb x a) (sym same)) (eqb_refl a)
  where
    same : bit_and a b ≡ a
    same = same_bits (bit_and a b) a (λ i. bit-and a b i
        ∙ T_same (bit a i && bit b i) (bit a i) (T_left (bit a i) (bit b i)) (λ t. T_and (bit a i) (bit b i) t (h i t)))

pub implies_refl : (a : ℕ) → T (implies a a)
implies_refl a = at_implies a a (λ i t. t)

pub implies_trans : (a b c : ℕ) → T (implies a b) → T (implies b c) → T (implies a c)
implies_trans a b c p q = at_implies a c (λ i t. implies_at b c q i (implies_at a b p i t))

pub implies_antisym : (a b : ℕ) → T (implies a b) → T (implies b a) → a ≡ b
implies_antisym a b p q = same_bits a b (λ i. T_same (bit a i) (bit b i) (implies_at a b p i) (implies_at b a q i))

pub and_left : (a b : ℕ) → T (implies (bit_and a b) a)
and_left a b = at_implies (bit_and a b) a (λ i t. T_left (bit a i) (bit b i) (T_eq (bit-and a b i) t))

pub and_right : (a b : ℕ) → T (implies (bit_and a b) b)
and_right a b = at_implies (bit_and a b) b (λ i t. T_right (bit a i) (bit b i) (T_eq (bit-and a b i) t))

pub and_greatest : (a b c : ℕ) → T (implies c a) → T (implies c b) → T (implies c (bit_and a b))
and_greatest a b c p q =
    at_implies c (bit_and a b) (λ i t. T_eq (sym (bit-and a b i)) (T_and (bit a i) (bit b i) (implies_at c a p i t) (implies_at c b q i t)))

pub or_left : (a b : ℕ) → T (implies a (bit_or a b))
or_left a b = at_implies a (bit_or a b) (λ i t. T_eq (sym (bit-or a b i)) (T_inl (bit a i) (bit b i) t))

pub or_right : (a b : ℕ) → T (implies b (bit_or a b))
or_right a b = at_implies b (bit_or a b) (λ i t. T_eq (sym (bit-or a b i)) (T_inr (bit a i) (bit b i) t))

pub or_least : (a b c : ℕ) → T (implies a c) → T (implies b c) → T (implies (bit_or a b) c)
or_least a b c p q =
    at_implies (bit_or a b) c (λ i t. ⊎_elim (implies_at a c p i) (implies_at b c q i) (T_or (bit a i) (bit b i) (T_eq (bit-or a b i) t)))

-- ---- what the test on tables decides

-- on any two tables of n principals: every set in the one is in the other
pub implies_sets : (n a b : ℕ) → a < 2 ^ (2 ^ n) → T (implies a b) ↔ ((x : ℕ) → x < 2 ^ n → T (bit a x) → T (bit b x))
implies_sets n a b ha = (
  λ h x q. implies_at a b h x,
  λ f. at_implies a b (λ x t. ⊎_elim (λ q. f x q t) (λ q. absurd (T_eq (bit_past (2 ^ n) a x ha q) t)) (lt_or_ge x (2 ^ n))),
)

-- on the tables of two formulas: the one implies the other
pub implies_entails : (n : ℕ) (cs ds : List ℕ) → T (implies (table n cs) (table n ds)) ↔ Entails n cs ds
implies_entails n cs ds = (
  λ h x q t. T_eq (bit_table n ds x q) (sets.0 h x q (T_eq (sym (bit_table n cs x q)) t)),
  λ f. sets.1 (λ x q t. T_eq (sym (bit_table n ds x q)) (f x q (T_eq (bit_table n cs x q) t))),
)
  where
    sets : T (implies (table n cs) (table n ds)) ↔ ((x : ℕ) → x < 2 ^ n → T (bit (table n cs) x) → T (bit (table n ds) x))
    sets = implies_sets n (table n cs) (table n ds) (table_lt n cs)

-- ---- the same test by and with the complement, in k digits

imp_by : (a b : Bool) → (a && not b) ≡ false → T a → T b
imp_by true true e t = tt
imp_by true false e t = absurd (false≢true (sym e))
imp_by false b e t = absurd t

no_gap : (a b : Bool) → (T a → T b) → (a && not b) ≡ false
no_gap true true f = refl
no_gap true false f = absurd (f tt)
no_gap false b f = refl

pub implies_test : (k a b : ℕ) → a < 2 ^ k → b < 2 ^ k → eqb (bit_and a (2 ^ k - 1 - b)) 0 ≡ implies a b
implies_test k a b ha hb =
    T_same (eqb (bit_and a c) 0) (implies a b)
    (λ t. at_implies a b (λ i h. ⊎_elim (inside t i h) (outside i h) (lt_or_ge i k)))
    (λ t. T_eq (ap (λ (x : ℕ). eqb x 0) (sym (empty t))) tt)
  where
    c : ℕ
    c = 2 ^ k - 1 - b

    gap : (i : ℕ) → i < k → bit (bit_and a c) i ≡ (bit a i && not (bit b i))
    gap i q = bit-and a c i ∙ ap (λ (x : Bool). bit a i && x) (bit_complement k b i hb q)

    inside : T (eqb (bit_and a c) 0) → (i : ℕ) → T (bit a i) → i < k → T (bit b i)
    inside t i h q =
        imp_by (bit a i) (bit b i) (sym (gap i q) ∙ ap (λ (x : ℕ). bit x i) (eqb→eq (bit_and a c) 0 t) ∙ bit_past 0 0 i (omega arith) zero-le) h

    outside : (i : ℕ) → T (bit a i) → k ≤ i → T (bit b i)
    outside i h q = absurd (T_eq (bit_past k a i ha q) h)

    empty : T (implies a b) → bit_and a c ≡ 0
    empty t = ext k (bit_and a c) 0 (lt_of_le_of_lt (and_le_l a c) ha) (pow_pos k)
        (λ i q. gap i q ∙ no_gap (bit a i) (bit b i) (implies_at a b t i) ∙ sym (bit_past 0 0 i (omega arith) zero-le))
