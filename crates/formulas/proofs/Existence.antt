-- Every formula over n principals has a canonical list with its table: `clauses` of its table. Assumes nothing.
use mathlib.Core.Path.{◌≡◌, sym, ◌∙◌, subst}
use mathlib.Core.Bool.{not}
use mathlib.Core.List.{List, Memᴰ as Mem}
use mathlib.Core.Logic.{⊎_elim}
use Prim.Native.Nat.{ℕ, zero, suc, ◌+◌, ◌-◌, ◌^◌, ◌≤◌, ◌<◌, zero-le}
use native.Mathlib.Omega.{arith}
use lib.Arith.{lt_of_le-ne}
use lib.Dec.{T, not_T}
use Rattle.formulas.specs.Bits.{bit}
use Rattle.formulas.specs.Formula.{holds, satisfied, table, implies}
use Rattle.formulas.specs.Normal.{canonical, all_below, passes_with, maximal_false, clauses}
use Rattle.formulas.proofs.Canonical.{Apart, canon_of}
use Rattle.formulas.proofs.Clauses.{maximal_fails, maximal_more}
use Rattle.formulas.proofs.Formula.{shares, holds_at, bit_table, table_lt, table_ext}
use Rattle.formulas.proofs.Implication.{implies_at, at_implies, implies_refl, implies_trans, implies_antisym}
use Rattle.formulas.proofs.Lists.{Asc, all_below_find, selected_in, selected_out, selected_asc}
use Rattle.formulas.proofs.Sets
use Rattle.formulas.proofs.Tests.{T_and, T_inl, T_inr, T_same, T_eq, T_stable, either}

-- a set is part of itself with one more member, and a smaller number where that member is new
more : (x p : ℕ) → T (implies x (Sets.adding x p))
more x p = at_implies x (Sets.adding x p) (λ q t. Sets.adding_old x p q t)

larger : (x p : ℕ) → (T (bit x p) → ⊥) → x < Sets.adding x p
larger x p f =
    lt_of_le-ne (Sets.subset_le x (Sets.adding x p) (more x p)) (λ e. f (subst (λ (z : ℕ). T (bit z p)) (sym e) (Sets.adding_new x p)))

module _ (n : ℕ) (cs : List ℕ) where
  -- ---- a set that does not satisfy the formula is part of a maximal false point

  -- what does not satisfy the formula and is no maximal false point has one more principal to take in
  step : (x : ℕ) → x < 2 ^ n → (T (satisfied cs x) → ⊥) → (T (maximal_false n (table n cs) x) → ⊥)
      → (p : ℕ) × (p < n) × (T (bit x p) → ⊥) × (T (satisfied cs (Sets.adding x p)) → ⊥)
  unfolding maximal_false
  step x hx f g =
      let w = all_below_find n (passes_with (table n cs) x) (λ t. g (T_and (not (bit (table n cs) x)) (all_below n (passes_with (table n cs) x))
      (not_T (bit (table n cs) x) (λ u. f (T_eq (bit_table n cs x hx) u))) t)) in (
        w.0,
        w.1,
        λ u. w.2 (T_inl (bit x w.0) (bit (table n cs) (Sets.adding x w.0)) u),
        λ u. w.2 (T_inr (bit x w.0) (bit (table n cs) (Sets.adding x w.0))
            (T_eq (sym (bit_table n cs (Sets.adding x w.0) (Sets.adding_lt n x w.0 hx w.1))) u)),
      )

  climb : (k x : ℕ) → 2 ^ n ≤ x + k → x < 2 ^ n → (T (satisfied cs x) → ⊥)
      → (z : ℕ) × (z < 2 ^ n) × T (maximal_false n (table n cs) z) × T (implies x z)
  climb zero x hk hx f = absurd (omega arith)
  climb (suc k) x hk hx f =
      ⊎_elim
      (λ t. (x, hx, t, implies_refl x))
      (λ g. let w = step x hx f g in
      let r = climb k (Sets.adding x w.0) (let h = larger x w.0 w.2 in omega arith) (Sets.adding_lt n x w.0 hx w.1) w.3 in
      (r.0, r.1, r.2, implies_trans x (Sets.adding x w.0) r.0 (more x w.0) r.3))
      (either (maximal_false n (table n cs) x))

  -- ---- what is listed

  listed : (c : ℕ) → Mem c (clauses n (table n cs)) → (c < 2 ^ n) × T (maximal_false n (table n cs) (Sets.outside n c))
  unfolding clauses
  listed c m = let w = selected_out (λ d. maximal_false n (table n cs) (2 ^ n - 1 - d)) (2 ^ n) 0 c m in (omega (arith, w.1), w.2)

  lists : (c : ℕ) → c < 2 ^ n → T (maximal_false n (table n cs) (Sets.outside n c)) → Mem c (clauses n (table n cs))
  unfolding clauses
  lists c h t = selected_in (λ d. maximal_false n (table n cs) (2 ^ n - 1 - d)) (2 ^ n) 0 c zero-le (omega arith) t

  ascends : Asc (clauses n (table n cs))
  unfolding clauses
  ascends = selected_asc (λ d. maximal_false n (table n cs) (2 ^ n - 1 - d)) (2 ^ n) 0

  -- ---- the list has the table that it was made from

  pub table_clauses : table n (clauses n (table n cs)) ≡ table n cs
  table_clauses =
      table_ext n (table n cs) (clauses n (table n cs)) (table_lt n cs)
      (λ x hx. T_same (satisfied (clauses n (table n cs)) x) (satisfied cs x) (down x hx) (up x hx) ∙ sym (bit_table n cs x hx))
    where
      up : (x : ℕ) → x < 2 ^ n → T (satisfied cs x) → T (satisfied (clauses n (table n cs)) x)
      up x hx t =
          Sets.satisfied_of (clauses n (table n cs)) x (λ c m. T_stable (holds c x) (λ f.
          let w = listed c m in
          maximal_fails n cs (Sets.outside n c) (Sets.outside_lt n c) w.1
          (Sets.satisfied_mono cs x (Sets.outside n c) (at_implies x (Sets.outside n c) (λ p u.
          Sets.in_or_out n c p w.0 (Sets.member_lt n x p hx u) (λ v. f (holds_at c x p v u)))) t)))

      down : (x : ℕ) → x < 2 ^ n → T (satisfied (clauses n (table n cs)) x) → T (satisfied cs x)
      down x hx t = T_stable (satisfied cs x) (λ f.
          let w = climb (2 ^ n) x (omega arith) hx f in
          let m : Mem (Sets.outside n w.0) (clauses n (table n cs)) = lists (Sets.outside n w.0) (Sets.outside_lt n w.0)
          (subst (λ (z : ℕ). T (maximal_false n (table n cs) z)) (sym (Sets.outside_twice n w.0 w.1)) w.2) in
          let v = shares (Sets.outside n w.0) x (Sets.satisfied_at (clauses n (table n cs)) x (Sets.outside n w.0) t m) in
          Sets.out_in n w.0 v.0 w.1 v.1 (implies_at x w.0 w.3 v.0 v.2))

  -- ---- and is canonical

  pub canonical_clauses : T (canonical n (clauses n (table n cs)))
  canonical_clauses =
      canon_of n (clauses n (table n cs)) (λ c m. (listed c m).0) ascends apart
    where
      apart : Apart (clauses n (table n cs))
      apart c d mc md s =
          let wc = listed c mc in let wd = listed d md in
          implies_antisym c d s (at_implies d c (λ p u. T_stable (bit c p) (λ f.
          maximal_fails n cs (Sets.outside n c) (Sets.outside_lt n c) wc.1
          (Sets.satisfied_mono cs (Sets.adding (Sets.outside n d) p) (Sets.outside n c)
          (at_implies (Sets.adding (Sets.outside n d) p) (Sets.outside n c) (λ q v.
          ⊎_elim
          (λ o. Sets.in_or_out n c q wc.0 (Sets.member_lt n (Sets.outside n d) q (Sets.outside_lt n d) o)
          (λ i. Sets.out_in n d q wd.0 o (implies_at c d s q i)))
          (λ e. subst (λ (z : ℕ). T (bit (Sets.outside n c) z)) (sym e) (Sets.in_or_out n c p wc.0 (Sets.member_lt n d p wd.0 u) f))
          (Sets.adding_cases (Sets.outside n d) p q v)))
          (maximal_more n cs (Sets.outside n d) (Sets.outside_lt n d) wd.1 p (Sets.member_lt n d p wd.0 u) (λ o. Sets.out_in n d p wd.0 o u))))))
