-- The sets of n principals fall into chains, in each of which every two sets are comparable: the symmetric chain
-- decomposition, built principal by principal. Assumes nothing.
use mathlib.Core.Path.{◌≡◌, sym, ◌∙◌, subst}
use mathlib.Core.Bool.{Bool, true, false, ◌&&◌, ◌||◌}
use mathlib.Core.List.Memᴰ.{cases_cons as cases}
use mathlib.Core.List.Memᴰ.{head as here}
use mathlib.Core.List.Memᴰ.{not-nil as none}
use mathlib.Core.List.Memᴰ.{tail as there}
use mathlib.Core.List.{List, [], ◌∷◌, Memᴰ as Mem}
use mathlib.Core.Logic.{◌⊎◌, inl, inr, ⊎_elim}
use Prim.Native.Nat.{ℕ, zero, suc, ◌+◌, ◌^◌}
use lib.Dec.{T, eqb, eqb→eq}
use Rattle.formulas.specs.Formula.{implies}
use Rattle.formulas.specs.Lists.{among}
use Rattle.formulas.specs.Normal.{all_below}
use Rattle.formulas.proofs.Implication.{implies_trans}
use Rattle.formulas.proofs.Tests.{T_left, T_right, T_or}

-- ---- the chains; to a set of the first n principals, the principal n adds m = 2 ^ n

-- a chain, and its last set with the new principal
abbrev longer : ℕ → List ℕ → List ℕ
longer m [] = []
longer m (c ∷ []) = c ∷ (c + m) ∷ []
longer m (c ∷ d ∷ ds) = c ∷ longer m (d ∷ ds)

-- a chain but for its last set, each with the new principal
abbrev shorter : ℕ → List ℕ → List ℕ
shorter m [] = []
shorter m (c ∷ []) = []
shorter m (c ∷ d ∷ ds) = (c + m) ∷ shorter m (d ∷ ds)

abbrev add_chain : List ℕ → List (List ℕ) → List (List ℕ)
add_chain [] kss = kss
add_chain (c ∷ cs) kss = (c ∷ cs) ∷ kss

abbrev grown : ℕ → List (List ℕ) → List (List ℕ)
grown m [] = []
grown m (k ∷ ks) = longer m k ∷ add_chain (shorter m k) (grown m ks)

abbrev pub chains : ℕ → List (List ℕ)
chains zero = (0 ∷ []) ∷ []
chains (suc n) = grown (2 ^ n) (chains n)

-- ---- tests on chains

abbrev pub among_any : ℕ → List (List ℕ) → Bool
among_any c [] = false
among_any c (k ∷ ks) = among c k || among_any c ks

-- each set is a subset of the next
abbrev pub linked : List ℕ → Bool
linked [] = true
linked (c ∷ []) = true
linked (c ∷ d ∷ ds) = implies c d && linked (d ∷ ds)

abbrev pub all_linked : List (List ℕ) → Bool
all_linked [] = true
all_linked (k ∷ ks) = linked k && all_linked ks

pub among_mem : (c : ℕ) (k : List ℕ) → T (among c k) → Mem c k
among_mem c [] t = absurd t
among_mem c (d ∷ ds) t = ⊎_elim (λ e. here (eqb→eq c d e)) (λ u. there (among_mem c ds u)) (T_or (eqb c d) (among c ds) t)

linked_head : (c : ℕ) (ds : List ℕ) → T (linked (c ∷ ds)) → (d : ℕ) → Mem d ds → T (implies c d)
linked_head c [] t d m = absurd (none m)
linked_head c (e ∷ es) t d m =
    let s = T_left (implies c e) (linked (e ∷ es)) t in
    ⊎_elim (λ q. subst (λ (y : ℕ). T (implies c y)) (sym q) s)
    (λ m'. implies_trans c e d s (linked_head e es (T_right (implies c e) (linked (e ∷ es)) t) d m')) (cases m)

linked_tail : (c : ℕ) (ds : List ℕ) → T (linked (c ∷ ds)) → T (linked ds)
linked_tail c [] t = tt
linked_tail c (e ∷ es) t = T_right (implies c e) (linked (e ∷ es)) t

-- two different sets of a chain are comparable
pub comparable : (k : List ℕ) → T (linked k) → (c d : ℕ) → Mem c k → Mem d k → (c ≡ d) ⊎ (T (implies c d) ⊎ T (implies d c))
comparable [] t c d mc md = absurd (none mc)
comparable (e ∷ es) t c d mc md =
    ⊎_elim
    (λ p. ⊎_elim (λ q. inl (p ∙ sym q)) (λ md'. inr (inl (subst (λ (y : ℕ). T (implies y d)) (sym p) (linked_head e es t d md')))) (cases md))
    (λ mc'. ⊎_elim (λ q. inr (inr (subst (λ (y : ℕ). T (implies y c)) (sym q) (linked_head e es t c mc'))))
    (λ md'. comparable es (linked_tail e es t) c d mc' md') (cases md))
    (cases mc)

-- the test that is computed for a given n: the chains are chains, and hold every set of n principals
abbrev pub chained : ℕ → Bool
chained n = all_linked (chains n) && all_below (2 ^ n) (λ c. among_any c (chains n))
