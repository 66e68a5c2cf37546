-- What it is for a list of masks to be canonical, member by member. Assumes nothing.
use mathlib.Core.Path.{◌≡◌, refl, sym, ◌∙◌, subst}
use mathlib.Core.Bool.{true, not, ◌&&◌}
use mathlib.Core.List.Memᴰ.{cases_cons as cases}
use mathlib.Core.List.Memᴰ.{head as here}
use mathlib.Core.List.Memᴰ.{not-nil as none}
use mathlib.Core.List.Memᴰ.{tail as there}
use mathlib.Core.List.{List, [], ◌∷◌, ◌++◌, Memᴰ as Mem}
use mathlib.Core.Logic.{⊎_elim}
use Prim.Native.Nat.{ℕ, ◌^◌, ◌<◌}
use native.Mathlib.Omega.{arith}
use lib.Dec.{T, ltb, ltb→lt, lt→ltb, T_not, not_T}
use Rattle.formulas.specs.Formula.{holds, satisfied, implies}
use Rattle.formulas.specs.Normal.{leads, canonical}
use Rattle.formulas.proofs.Lists.{Asc}
use Rattle.formulas.proofs.Sets.{subset_le, outside, sub_disjoint, disjoint_sub, satisfied_at, satisfied_of}
use Rattle.formulas.proofs.Tests.{T_and, T_left, T_right, T_stable}

-- the masks are sets of n principals
abbrev pub Within : ℕ → List ℕ → Type 0
Within n cs = (c : ℕ) → Mem c cs → c < 2 ^ n

-- no two of the masks are comparable
abbrev pub Apart : List ℕ → Type 0
Apart cs = (c d : ℕ) → Mem c cs → Mem d cs → T (implies c d) → c ≡ d

leads_apart : (c : ℕ) (ds : List ℕ) (d : ℕ) → T (leads c ds) → Mem d ds → T (implies c d) → ⊥
leads_apart c [] d t m = absurd (none m)
leads_apart c (e ∷ es) d t m =
    ⊎_elim (λ q. subst (λ (y : ℕ). T (implies c y) → ⊥) (sym q)
    (T_not (implies c e) (T_left (not (implies c e)) (leads c es) (T_right (ltb c e) (not (implies c e) && leads c es) t))))
    (λ m'. leads_apart c es d (T_right (not (implies c e)) (leads c es) (T_right (ltb c e) (not (implies c e) && leads c es) t)) m') (cases m)

leads_lt : (c : ℕ) (ds : List ℕ) (d : ℕ) → T (leads c ds) → Mem d ds → c < d
leads_lt c [] d t m = absurd (none m)
leads_lt c (e ∷ es) d t m =
    ⊎_elim (λ q. subst (λ (y : ℕ). c < y) (sym q) (ltb→lt c e (T_left (ltb c e) (not (implies c e) && leads c es) t)))
    (λ m'. leads_lt c es d (T_right (not (implies c e)) (leads c es) (T_right (ltb c e) (not (implies c e) && leads c es) t)) m') (cases m)

leads_of : (c : ℕ) (ds : List ℕ) → ((d : ℕ) → Mem d ds → c < d) → ((d : ℕ) → Mem d ds → T (implies c d) → ⊥) → T (leads c ds)
leads_of c [] f g = tt
leads_of c (e ∷ es) f g =
    T_and (ltb c e) (not (implies c e) && leads c es) (lt→ltb c e (f e (here refl)))
    (T_and (not (implies c e)) (leads c es) (not_T (implies c e) (g e (here refl)))
    (leads_of c es (λ d m. f d (there m)) (λ d m. g d (there m))))

module _ (n : ℕ) where
  canon_head : (c : ℕ) (cs : List ℕ) → T (canonical n (c ∷ cs)) → c < 2 ^ n
  canon_head c cs t = ltb→lt c (2 ^ n) (T_left (ltb c (2 ^ n)) (leads c cs && canonical n cs) t)

  canon_leads : (c : ℕ) (cs : List ℕ) → T (canonical n (c ∷ cs)) → T (leads c cs)
  canon_leads c cs t = T_left (leads c cs) (canonical n cs) (T_right (ltb c (2 ^ n)) (leads c cs && canonical n cs) t)

  canon_tail : (c : ℕ) (cs : List ℕ) → T (canonical n (c ∷ cs)) → T (canonical n cs)
  canon_tail c cs t = T_right (leads c cs) (canonical n cs) (T_right (ltb c (2 ^ n)) (leads c cs && canonical n cs) t)

  pub canon_lt : (cs : List ℕ) → T (canonical n cs) → Within n cs
  canon_lt [] t c m = absurd (none m)
  canon_lt (d ∷ ds) t c m =
      ⊎_elim (λ e. subst (λ (y : ℕ). y < 2 ^ n) (sym e) (canon_head d ds t)) (λ m'. canon_lt ds (canon_tail d ds t) c m') (cases m)

  pub canon_asc : (cs : List ℕ) → T (canonical n cs) → Asc cs
  canon_asc [] t = tt
  canon_asc (c ∷ cs) t = (λ d m. leads_lt c cs d (canon_leads c cs t) m, canon_asc cs (canon_tail c cs t))

  pub canon_apart : (cs : List ℕ) → T (canonical n cs) → Apart cs
  canon_apart [] t c d mc md s = absurd (none mc)
  canon_apart (e ∷ es) t c d mc md s =
      ⊎_elim
      (λ p. ⊎_elim (λ q. p ∙ sym q)
      (λ md'. absurd (leads_apart e es d (canon_leads e es t) md' (subst (λ (y : ℕ). T (implies y d)) p s))) (cases md))
      (λ mc'. ⊎_elim
      (λ q. absurd (let h = leads_lt e es c (canon_leads e es t) mc' in let k = subset_le c d s in omega arith))
      (λ md'. canon_apart es (canon_tail e es t) c d mc' md' s) (cases md))
      (cases mc)

  pub canon_of : (cs : List ℕ) → Within n cs → Asc cs → Apart cs → T (canonical n cs)
  canon_of [] f a g = tt
  canon_of (c ∷ cs) f a g =
      T_and (ltb c (2 ^ n)) (leads c cs && canonical n cs) (lt→ltb c (2 ^ n) (f c (here refl)))
      (T_and (leads c cs) (canonical n cs)
      (leads_of c cs a.0 (λ d m s. let h = a.0 d m in let e = g c d (here refl) (there m) s in omega arith))
      (canon_of cs (λ d m. f d (there m)) a.1 (λ d e md me. g d e (there md) (there me))))

-- ── with more masks behind it ──

-- a clause that may stand before more masks may stand before the first of them
leads_front : (c : ℕ) (ds es : List ℕ) → T (leads c (ds ++ es)) → T (leads c ds)
leads_front c [] es t = tt
leads_front c (d ∷ ds) es t =
    let u = T_right (ltb c d) (not (implies c d) && leads c (ds ++ es)) t in
    T_and (ltb c d) (not (implies c d) && leads c ds) (T_left (ltb c d) (not (implies c d) && leads c (ds ++ es)) t)
    (T_and (not (implies c d)) (leads c ds) (T_left (not (implies c d)) (leads c (ds ++ es)) u)
    (leads_front c ds es (T_right (not (implies c d)) (leads c (ds ++ es)) u)))

-- d comes behind c: it is above it, and no set that has c as a subset
abbrev pub Follows : ℕ → ℕ → Type 0
Follows c d = (c < d) × (T (implies c d) → ⊥)

leads_last : (c : ℕ) (ds : List ℕ) (e : ℕ) → T (leads c (ds ++ e ∷ [])) → Follows c e
leads_last c [] e t =
    (ltb→lt c e (T_left (ltb c e) (not (implies c e) && true) t), T_not (implies c e) (T_left (not (implies c e)) true (T_right (ltb c e) (not (implies c e) && true) t)))
leads_last c (d ∷ ds) e t =
    leads_last c ds e (T_right (not (implies c d)) (leads c (ds ++ e ∷ [])) (T_right (ltb c d) (not (implies c d) && leads c (ds ++ e ∷ [])) t))

leads_more : (c : ℕ) (ds : List ℕ) (e : ℕ) → T (leads c ds) → Follows c e → T (leads c (ds ++ e ∷ []))
leads_more c [] e t h = T_and (ltb c e) (not (implies c e) && true) (lt→ltb c e h.0) (T_and (not (implies c e)) true (not_T (implies c e) h.1) tt)
leads_more c (d ∷ ds) e t h =
    let u = T_right (ltb c d) (not (implies c d) && leads c ds) t in
    T_and (ltb c d) (not (implies c d) && leads c (ds ++ e ∷ [])) (T_left (ltb c d) (not (implies c d) && leads c ds) t)
    (T_and (not (implies c d)) (leads c (ds ++ e ∷ [])) (T_left (not (implies c d)) (leads c ds) u)
    (leads_more c ds e (T_right (not (implies c d)) (leads c ds) u) h))

module _ (n : ℕ) where
  pub canon_front : (cs es : List ℕ) → T (canonical n (cs ++ es)) → T (canonical n cs)
  canon_front [] es t = tt
  canon_front (c ∷ cs) es t =
      T_and (ltb c (2 ^ n)) (leads c cs && canonical n cs) (lt→ltb c (2 ^ n) (canon_head n c (cs ++ es) t))
      (T_and (leads c cs) (canonical n cs) (leads_front c cs es (canon_leads n c (cs ++ es) t)) (canon_front cs es (canon_tail n c (cs ++ es) t)))

  -- the last mask follows all others
  pub canon_last : (cs : List ℕ) (e : ℕ) → T (canonical n (cs ++ e ∷ [])) → (c : ℕ) → Mem c cs → Follows c e
  canon_last [] e t c m = absurd (none m)
  canon_last (d ∷ ds) e t c m =
      ⊎_elim (λ q. subst (λ (y : ℕ). Follows y e) (sym q) (leads_last d ds e (canon_leads n d (ds ++ e ∷ []) t)))
      (λ m'. canon_last ds e (canon_tail n d (ds ++ e ∷ []) t) c m') (cases m)

  -- and one that follows all others may be the last
  pub canon_more : (cs : List ℕ) (e : ℕ) → T (canonical n cs) → e < 2 ^ n → ((c : ℕ) → Mem c cs → Follows c e) → T (canonical n (cs ++ e ∷ []))
  canon_more [] e t h f = T_and (ltb e (2 ^ n)) true (lt→ltb e (2 ^ n) h) tt
  canon_more (c ∷ cs) e t h f =
      T_and (ltb c (2 ^ n)) (leads c (cs ++ e ∷ []) && canonical n (cs ++ e ∷ [])) (lt→ltb c (2 ^ n) (canon_head n c cs t))
      (T_and (leads c (cs ++ e ∷ [])) (canonical n (cs ++ e ∷ []))
      (leads_more c cs e (canon_leads n c cs t) (f c (here refl)))
      (canon_more cs e (canon_tail n c cs t) h (λ d m. f d (there m))))

  -- No mask of a list is a subset of e where the set of all principals outside e satisfies the formula.
  pub none_within : (cs : List ℕ) (e : ℕ) → e < 2 ^ n → T (satisfied cs (outside n e)) → (c : ℕ) → Mem c cs → T (implies c e) → ⊥
  none_within cs e h t c m s = sub_disjoint n c e h s (satisfied_at cs (outside n e) c t m)

  pub outside_satisfies : (cs : List ℕ) (e : ℕ) → Within n cs → e < 2 ^ n → ((c : ℕ) → Mem c cs → T (implies c e) → ⊥) → T (satisfied cs (outside n e))
  outside_satisfies cs e w h f =
      satisfied_of cs (outside n e) (λ c m. T_stable (holds c (outside n e)) (λ g. f c m (disjoint_sub n c e (w c m) h g)))
