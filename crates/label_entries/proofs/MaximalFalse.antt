-- Steps of the loop that tells a maximal false point of a table. Assumes nothing.
use mathlib.Core.Path.{◌≡◌, sym, ap, subst}
use mathlib.Core.Bool.{Bool, true, false, not, ◌&&◌}
use Prim.Native.Nat.{ℕ, ◌+◌, ◌<◌}
use native.Mathlib.Numerals.{add-one}
use lib.Dec.{T}
use Rattle.formulas.specs.Bits.{bit}
use Rattle.labels.specs.Tables.{principals}
use Rattle.formulas.specs.Normal.{all_below, passes_with, maximal_false}
use Rattle.formulas.proofs.Lists.{all_below_at}
use Rattle.formulas.proofs.Tests.{T_and, T_right, T_same, T_eq, T_true}

-- ---- the loop over the principals that may be added to x

module _ (t x : ℕ) where
  pub maximal_in : bit t x ≡ true → maximal_false principals t x ≡ false
  unfolding maximal_false
  maximal_in e = ap (λ (b : Bool). not b && all_below principals (passes_with t x)) e

  pub maximal_stops : (p : ℕ) → p < principals → passes_with t x p ≡ false → maximal_false principals t x ≡ false
  unfolding maximal_false
  maximal_stops p h e =
      T_same (maximal_false principals t x) false
      (λ u. T_eq e (all_below_at principals (passes_with t x) p (T_right (not (bit t x)) (all_below principals (passes_with t x)) u) h)) (λ u. absurd u)

  pub passes_next : (p : ℕ) → T (all_below p (passes_with t x)) → passes_with t x p ≡ true → T (all_below (p + 1) (passes_with t x))
  passes_next p u e = subst (λ (k : ℕ). T (all_below k (passes_with t x))) (sym (add-one p)) (T_and (passes_with t x p) (all_below p (passes_with t x)) (T_eq (sym e) tt) u)

  pub maximal_is : (p : ℕ) → p ≡ principals → T (all_below p (passes_with t x)) → bit t x ≡ false → maximal_false principals t x ≡ true
  unfolding maximal_false
  maximal_is p h u e =
      T_true (maximal_false principals t x) (T_and (not (bit t x)) (all_below principals (passes_with t x)) (T_eq (sym (ap not e)) tt) (subst (λ (k : ℕ). T (all_below k (passes_with t x))) h u))
