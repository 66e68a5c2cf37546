-- The clauses of a formula that is canonical are the complements of its maximal false points, so that `clauses` gives back
-- the list that a table came from, and a table has at most one. Assumes nothing.
use mathlib.Core.Path.{◌≡◌, sym, ap, ◌∙◌, subst}
use mathlib.Core.Bool.{Bool, not}
use mathlib.Core.List.Memᴰ.{cast}
use mathlib.Core.List.{List, Memᴰ as Mem}
use mathlib.Core.Logic.{⊎_elim}
use Prim.Native.Nat.{ℕ, ◌-◌, ◌^◌, ◌<◌, zero-le}
use native.Mathlib.Omega.{arith}
use lib.Dec.{T, T_not, not_T}
use Rattle.formulas.specs.Bits.{bit}
use Rattle.formulas.specs.Formula.{holds, satisfied, table, implies}
use Rattle.formulas.specs.Normal.{canonical, all_below, passes_with, maximal_false, selected, clauses}
use Rattle.formulas.proofs.Canonical.{Within, Apart, canon_lt, canon_asc, canon_apart}
use Rattle.formulas.proofs.Formula.{shares, holds_at, bit_table}
use Rattle.formulas.proofs.Implication.{at_implies, implies_refl, implies_antisym}
use Rattle.formulas.proofs.Lists.{all_below_at, all_below_of, asc_same, selected_in, selected_out, selected_asc}
use Rattle.formulas.proofs.Sets
use Rattle.formulas.proofs.Tests.{T_and, T_left, T_right, T_inl, T_inr, T_or, T_eq, T_stable, either}

-- ---- a maximal false point of a formula

module _ (n : ℕ) (cs : List ℕ) where
  pub maximal_fails : (x : ℕ) → x < 2 ^ n → T (maximal_false n (table n cs) x) → T (satisfied cs x) → ⊥
  unfolding maximal_false
  maximal_fails x hx t u =
      T_not (bit (table n cs) x) (T_left (not (bit (table n cs) x)) (all_below n (passes_with (table n cs) x)) t) (T_eq (sym (bit_table n cs x hx)) u)

  pub maximal_more : (x : ℕ) → x < 2 ^ n → T (maximal_false n (table n cs) x) → (p : ℕ) → p < n → (T (bit x p) → ⊥) → T (satisfied cs (Sets.adding x p))
  unfolding maximal_false
  maximal_more x hx t p hp f =
      ⊎_elim (λ u. absurd (f u)) (λ u. T_eq (bit_table n cs (Sets.adding x p) (Sets.adding_lt n x p hx hp)) u)
      (T_or (bit x p) (bit (table n cs) (Sets.adding x p))
      (all_below_at n (passes_with (table n cs) x) p (T_right (not (bit (table n cs) x)) (all_below n (passes_with (table n cs) x)) t) hp))

  maximal_of : (x : ℕ) → x < 2 ^ n → (T (satisfied cs x) → ⊥)
      → ((p : ℕ) → p < n → (T (bit x p) → ⊥) → T (satisfied cs (Sets.adding x p))) → T (maximal_false n (table n cs) x)
  unfolding maximal_false
  maximal_of x hx f g =
      T_and (not (bit (table n cs) x)) (all_below n (passes_with (table n cs) x))
      (not_T (bit (table n cs) x) (λ u. f (T_eq (bit_table n cs x hx) u)))
      (all_below_of n (passes_with (table n cs) x) (λ p hp.
      ⊎_elim (λ u. T_inl (bit x p) (bit (table n cs) (Sets.adding x p)) u)
      (λ u. T_inr (bit x p) (bit (table n cs) (Sets.adding x p))
      (T_eq (sym (bit_table n cs (Sets.adding x p) (Sets.adding_lt n x p hx hp))) (g p hp u)))
      (either (bit x p))))

-- ---- the clauses of a formula and its maximal false points

module _ (n : ℕ) (cs : List ℕ) (within : Within n cs) where
  -- the complement of a maximal false point is one of the clauses
  maximal_clause : (c : ℕ) → c < 2 ^ n → T (maximal_false n (table n cs) (Sets.outside n c)) → Mem c cs
  maximal_clause c hc t =
      let w = Sets.satisfied_find cs (Sets.outside n c) (maximal_fails n cs (Sets.outside n c) (Sets.outside_lt n c) t) in
      cast (sym (same w.0 w.1 w.2)) w.1
    where
      same : (d : ℕ) → Mem d cs → (T (holds d (Sets.outside n c)) → ⊥) → d ≡ c
      same d m f =
          implies_antisym d c (Sets.disjoint_sub n d c (within d m) hc f)
          (at_implies c d (λ p u.
          let v = shares d (Sets.adding (Sets.outside n c) p)
          (Sets.satisfied_at cs (Sets.adding (Sets.outside n c) p) d
          (maximal_more n cs (Sets.outside n c) (Sets.outside_lt n c) t p (Sets.member_lt n c p hc u) (λ o. Sets.out_in n c p hc o u)) m) in
          ⊎_elim (λ o. absurd (f (holds_at d (Sets.outside n c) v.0 v.1 o)))
          (λ e. subst (λ (q : ℕ). T (bit d q)) e v.1) (Sets.adding_cases (Sets.outside n c) p v.0 v.2)))

  -- and where no clause is a subset of another, the complement of each is a maximal false point
  clause_maximal : Apart cs → (c : ℕ) → Mem c cs → T (maximal_false n (table n cs) (Sets.outside n c))
  clause_maximal apart c m =
      maximal_of n cs (Sets.outside n c) (Sets.outside_lt n c)
      (λ t. Sets.sub_disjoint n c c (within c m) (implies_refl c) (Sets.satisfied_at cs (Sets.outside n c) c t m))
      (λ p hp f. Sets.satisfied_of cs (Sets.adding (Sets.outside n c) p) (λ d md. T_stable (holds d (Sets.adding (Sets.outside n c) p)) (λ g.
      let s : T (implies d c) = Sets.disjoint_sub n d c (within d md) (within c m) (λ h.
      let w = shares d (Sets.outside n c) h in
      g (holds_at d (Sets.adding (Sets.outside n c) p) w.0 w.1 (Sets.adding_old (Sets.outside n c) p w.0 w.2))) in
      let e : d ≡ c = apart d c md m s in
      let u : T (bit c p) = T_stable (bit c p) (λ k. f (Sets.in_or_out n c p (within c m) hp k)) in
      g (holds_at d (Sets.adding (Sets.outside n c) p) p (subst (λ (z : ℕ). T (bit z p)) (sym e) u) (Sets.adding_new (Sets.outside n c) p)))))

-- ---- the list of the table of a list

-- the clauses of the table of a canonical list are that list
pub clauses_table : (n : ℕ) (cs : List ℕ) → T (canonical n cs) → clauses n (table n cs) ≡ cs
unfolding clauses
clauses_table n cs t =
    asc_same (selected f 0 (2 ^ n)) cs (selected_asc f (2 ^ n) 0) (canon_asc n cs t)
    (λ c m. let w = selected_out f (2 ^ n) 0 c m in maximal_clause n cs (canon_lt n cs t) c (omega (arith, w.1)) w.2)
    (λ c m. selected_in f (2 ^ n) 0 c zero-le (omega (arith, canon_lt n cs t c m)) (clause_maximal n cs (canon_lt n cs t) (canon_apart n cs t) c m))
  where
    f : ℕ → Bool
    f c = maximal_false n (table n cs) (2 ^ n - 1 - c)

-- two canonical lists with one table are one list
pub unique : (n : ℕ) (cs ds : List ℕ) → T (canonical n cs) → T (canonical n ds) → table n cs ≡ table n ds → cs ≡ ds
unique n cs ds tc td e = sym (clauses_table n cs tc) ∙ ap (clauses n) e ∙ clauses_table n ds td
