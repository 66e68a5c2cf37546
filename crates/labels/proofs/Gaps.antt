-- Implication as the code tests it: no set of any word is in the one table and not in the other. Assumes nothing.
use mathlib.Core.Path.{◌≡◌, sym, ap, ap₂, ◌∙◌}
use mathlib.Core.Bool.{Bool, ◌&&◌}
use Prim.Native.Nat.{ℕ, ◌-◌, ◌^◌, ◌<◌}
use native.Mathlib.Omega.{arith}
use lib.Bits.{bit_and, bit_or, or_add_and, and_le_l, and_le_r}
use lib.Dec.{eqb, eqb→eq}
use borrow.Author.Tests.{eq-eqb}
use Rattle.formulas.specs.Formula.{implies}
use Rattle.formulas.proofs.Implication.{implies_test}
use Rattle.formulas.proofs.Tests.{T_and, T_left, T_right, T_same, T_eq}
use Rattle.labels.specs.Tables.{table_implies}
use Rattle.labels.specs.declared.Table.{Table}
use Rattle.labels.proofs.Wide.{Fits}

-- an OR is 0 where both are
or_none : (a b : ℕ) → eqb (bit_or a b) 0 ≡ (eqb a 0 && eqb b 0)
or_none a b =
    T_same (eqb (bit_or a b) 0) (eqb a 0 && eqb b 0)
    (λ t. let e = eqb→eq (bit_or a b) 0 t in
    T_and (eqb a 0) (eqb b 0)
    (T_eq (sym (eq-eqb a 0 (omega (arith, or_add_and a b, and_le_r a b)))) tt)
    (T_eq (sym (eq-eqb b 0 (omega (arith, or_add_and a b, and_le_l a b)))) tt))
    (λ t. let e = eqb→eq a 0 (T_left (eqb a 0) (eqb b 0) t) in
    let f = eqb→eq b 0 (T_right (eqb a 0) (eqb b 0) t) in
    T_eq (sym (eq-eqb (bit_or a b) 0 (omega (arith, or_add_and a b)))) tt)

module _ (a b : Table) (p : Fits a) (q : Fits b) where
  pub no_gaps : (x0 x1 x2 x3 : ℕ)
      → x0 ≡ bit_and a.word0 (2 ^ 64 - 1 - b.word0) → x1 ≡ bit_and a.word1 (2 ^ 64 - 1 - b.word1)
      → x2 ≡ bit_and a.word2 (2 ^ 64 - 1 - b.word2) → x3 ≡ bit_and a.word3 (2 ^ 64 - 1 - b.word3)
      → eqb (bit_or (bit_or x0 x1) (bit_or x2 x3)) 0 ≡ table_implies a b
  unfolding table_implies
  no_gaps x0 x1 x2 x3 e0 e1 e2 e3 =
      or_none (bit_or x0 x1) (bit_or x2 x3)
      ∙ ap₂ (λ (s t : Bool). s && t) (or_none x0 x1) (or_none x2 x3)
      ∙ ap₂ (λ (s t : Bool). s && t)
      (ap₂ (λ (s t : Bool). s && t) (word x0 a.word0 b.word0 e0 p.fits0 q.fits0) (word x1 a.word1 b.word1 e1 p.fits1 q.fits1))
      (ap₂ (λ (s t : Bool). s && t) (word x2 a.word2 b.word2 e2 p.fits2 q.fits2) (word x3 a.word3 b.word3 e3 p.fits3 q.fits3))
    where
      word : (x v w : ℕ) → x ≡ bit_and v (2 ^ 64 - 1 - w) → v < 2 ^ 64 → w < 2 ^ 64 → eqb x 0 ≡ implies v w
      word x v w e f g = ap (λ (y : ℕ). eqb y 0) e ∙ implies_test 64 v w f g
