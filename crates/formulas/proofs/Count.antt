-- How many clauses a canonical list has at most: one of each chain. Assumes nothing.
use mathlib.Core.Path.{◌≡◌, refl, sym, ap, ◌∙◌, subst}
use mathlib.Core.Bool.{Bool, true, false, not}
use mathlib.Core.List.Memᴰ.{head as here}
use mathlib.Core.List.Memᴰ.{not-nil as none}
use mathlib.Core.List.Memᴰ.{tail as there}
use mathlib.Core.List.{List, [], ◌∷◌, Memᴰ as Mem}
use mathlib.Core.Logic.{⊎_elim}
use Prim.Native.Nat.{ℕ, suc, ◌^◌, ◌≤◌, suc-le-suc}
use native.Mathlib.Nat.{le_trans}
use native.Mathlib.Omega.{arith}
use lib.Dec.{T, T_not, not_T}
use lib.ListN.{length}
use Rattle.formulas.specs.Formula.{implies}
use Rattle.formulas.specs.Normal.{canonical, all_below, cons_if}
use Rattle.formulas.proofs.Canonical.{Apart, canon_lt, canon_apart, canon_asc}
use Rattle.formulas.specs.Lists.{among}
use Rattle.formulas.proofs.Chains.{chains, among_any, linked, all_linked, among_mem, comparable, chained}
use Rattle.formulas.proofs.Lists.{Asc, all_below_at, cons_if_cases, cons_if_asc}
use Rattle.formulas.proofs.Tests.{T_left, T_right, T_or, T_eq}

-- the members of a list that pass the test f
abbrev sift : (ℕ → Bool) → List ℕ → List ℕ
sift f [] = []
sift f (c ∷ cs) = cons_if (f c) c (sift f cs)

sift_out : (f : ℕ → Bool) (cs : List ℕ) (d : ℕ) → Mem d (sift f cs) → Mem d cs × T (f d)
sift_out f [] d m = absurd (none m)
sift_out f (c ∷ cs) d m =
    ⊎_elim (λ w. (here w.0, subst (λ (y : ℕ). T (f y)) (sym w.0) w.1))
    (λ m'. let w = sift_out f cs d m' in (there w.0, w.1)) (cons_if_cases (f c) c d (sift f cs) m)

sift_asc : (f : ℕ → Bool) (cs : List ℕ) → Asc cs → Asc (sift f cs)
sift_asc f [] a = tt
sift_asc f (c ∷ cs) a = cons_if_asc (f c) c (sift f cs) (λ d m. a.0 d (sift_out f cs d m).0) (sift_asc f cs a.1)

sift_all : (f : ℕ → Bool) (cs : List ℕ) → ((d : ℕ) → Mem d cs → T (f d)) → sift f cs ≡ cs
sift_all f [] h = refl
sift_all f (c ∷ cs) h = kept (f c) (h c (here refl)) ∙ ap (λ (l : List ℕ). c ∷ l) (sift_all f cs (λ d m. h d (there m)))
  where
    kept : (b : Bool) → T b → cons_if b c (sift f cs) ≡ c ∷ sift f cs
    kept true t = refl
    kept false t = absurd t

-- without the sets of one chain at most one is gone
one_gone : (k : List ℕ) → T (linked k) → (cs : List ℕ) → Asc cs → Apart cs → length cs ≤ suc (length (sift (λ c. not (among c k)) cs))
one_gone k t [] a g = omega arith
one_gone k t (c ∷ cs) a g = go (among c k) refl (one_gone k t cs a.1 (λ d e md me. g d e (there md) (there me)))
  where
    others : T (among c k) → (d : ℕ) → Mem d cs → T (not (among d k))
    others u d m = not_T (among d k) (λ v.
        let h = a.0 d m in
        let e : c ≡ d = ⊎_elim (λ e. e) (λ o. ⊎_elim (λ s. g c d (here refl) (there m) s) (λ s. sym (g d c (there m) (here refl) s)) o)
        (comparable k t c d (among_mem c k u) (among_mem d k v)) in
        omega arith)

    go : (b : Bool) → among c k ≡ b → length cs ≤ suc (length (sift (λ d. not (among d k)) cs))
        → suc (length cs) ≤ suc (length (cons_if (not b) c (sift (λ d. not (among d k)) cs)))
    go true e ih = suc-le-suc (subst (λ (l : List ℕ). length cs ≤ length l)
        (sym (sift_all (λ d. not (among d k)) cs (others (T_eq (sym e) tt)))) (omega arith))
    go false e ih = suc-le-suc ih

bound : (ks : List (List ℕ)) → T (all_linked ks) → (cs : List ℕ) → Asc cs → Apart cs → ((c : ℕ) → Mem c cs → T (among_any c ks)) → length cs ≤ length ks
bound [] t [] a g h = omega arith
bound [] t (c ∷ cs) a g h = absurd (h c (here refl))
bound (k ∷ ks) t cs a g h =
    le_trans (one_gone k (T_left (linked k) (all_linked ks) t) cs a g)
    (suc-le-suc (bound ks (T_right (linked k) (all_linked ks) t) (sift f cs) (sift_asc f cs a)
    (λ c d mc md. g c d (sift_out f cs c mc).0 (sift_out f cs d md).0)
    (λ c m. let w = sift_out f cs c m in
    ⊎_elim (λ u. absurd (T_not (among c k) w.1 u)) (λ u. u) (T_or (among c k) (among_any c ks) (h c w.0)))))
  where
    f : ℕ → Bool
    f d = not (among d k)

at_most : (n : ℕ) → T (chained n) → (cs : List ℕ) → T (canonical n cs) → length cs ≤ length (chains n)
at_most n t cs u =
    bound (chains n) (T_left (all_linked (chains n)) (all_below (2 ^ n) (λ c. among_any c (chains n))) t) cs (canon_asc n cs u) (canon_apart n cs u)
    (λ c m. all_below_at (2 ^ n) (λ d. among_any d (chains n)) c (T_right (all_linked (chains n)) (all_below (2 ^ n) (λ d. among_any d (chains n))) t) (canon_lt n cs u c m))

pub at_most_20 : (cs : List ℕ) → T (canonical 6 cs) → length cs ≤ 20
unfolding implies
at_most_20 = at_most 6 tt

pub at_most_70 : (cs : List ℕ) → T (canonical 8 cs) → length cs ≤ 70
unfolding implies
at_most_70 = at_most 8 tt
