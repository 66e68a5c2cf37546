-- Tests over ranges, ascending lists, and the numbers that a test selects. Assumes nothing.
use mathlib.Core.Path.{◌≡◌, refl, sym, ap₂, subst}
use mathlib.Core.Bool.{Bool, true, false}
use mathlib.Core.List.Memᴰ.{cases_cons as cases}
use mathlib.Core.List.Memᴰ.{cast}
use mathlib.Core.List.Memᴰ.{head as here}
use mathlib.Core.List.Memᴰ.{not-nil as none}
use mathlib.Core.List.Memᴰ.{tail as there}
use mathlib.Core.List.{List, [], ◌∷◌, Memᴰ as Mem}
use mathlib.Core.Logic.{◌⊎◌, inl, inr, ⊎_elim}
use Prim.Native.Nat.{ℕ, zero, suc, ◌+◌, ◌≤◌, ◌<◌}
use native.Mathlib.Omega.{arith}
use lib.Dec.{T}
use Rattle.formulas.specs.Normal.{all_below, cons_if, selected}
use Rattle.formulas.proofs.Tests.{T_and, T_left, T_right, lt_or_ge, either}

-- ---- a test at every number below n

pub all_below_at : (n : ℕ) (f : ℕ → Bool) (p : ℕ) → T (all_below n f) → p < n → T (f p)
all_below_at zero f p t h = absurd (omega arith)
all_below_at (suc n) f p t h =
    ⊎_elim (λ q. all_below_at n f p (T_right (f n) (all_below n f) t) q)
    (λ q. subst (λ (m : ℕ). T (f m)) (let e : n ≡ p = omega arith in e) (T_left (f n) (all_below n f) t)) (lt_or_ge p n)

pub all_below_of : (n : ℕ) (f : ℕ → Bool) → ((p : ℕ) → p < n → T (f p)) → T (all_below n f)
all_below_of zero f g = tt
all_below_of (suc n) f g = T_and (f n) (all_below n f) (g n (omega arith)) (all_below_of n f (λ p h. g p (omega arith)))

pub all_below_find : (n : ℕ) (f : ℕ → Bool) → (T (all_below n f) → ⊥) → (p : ℕ) × (p < n) × (T (f p) → ⊥)
all_below_find zero f g = absurd (g tt)
all_below_find (suc n) f g =
    ⊎_elim
    (λ t. let w = all_below_find n f (λ u. g (T_and (f n) (all_below n f) t u)) in (w.0, omega (arith, w.1), w.2))
    (λ h. (n, omega arith, h))
    (either (f n))

-- ---- ascending lists

abbrev pub Asc : List ℕ → Type 0
Asc [] = Unit {0}
Asc (c ∷ cs) = ((d : ℕ) → Mem d cs → c < d) × Asc cs

-- two ascending lists with the same members are equal
pub asc_same : (xs ys : List ℕ) → Asc xs → Asc ys → ((c : ℕ) → Mem c xs → Mem c ys) → ((c : ℕ) → Mem c ys → Mem c xs) → xs ≡ ys
asc_same [] [] ax ay f g = refl
asc_same [] (y ∷ ys) ax ay f g = absurd (none (g y (here refl)))
asc_same (x ∷ xs) [] ax ay f g = absurd (none (f x (here refl)))
asc_same (x ∷ xs) (y ∷ ys) ax ay f g =
    ap₂ (λ (a : ℕ) (l : List ℕ). a ∷ l) heads
    (asc_same xs ys ax.1 ay.1
    (λ c m. ⊎_elim (λ e. absurd (let h = ax.0 c m in omega (arith, heads))) (λ m'. m') (cases (f c (there m))))
    (λ c m. ⊎_elim (λ e. absurd (let h = ay.0 c m in omega (arith, heads))) (λ m'. m') (cases (g c (there m)))))
  where
    heads : x ≡ y
    heads =
        ⊎_elim (λ e. e)
        (λ m. ⊎_elim (λ e. sym e) (λ m'. absurd (let h = ay.0 x m in let k = ax.0 y m' in omega arith)) (cases (g y (here refl))))
        (cases (f x (here refl)))

-- ---- what `selected` holds

cons_if_head : (b : Bool) (c : ℕ) (l : List ℕ) → T b → Mem c (cons_if b c l)
cons_if_head true c l t = here refl
cons_if_head false c l t = absurd t

cons_if_tail : (b : Bool) (c d : ℕ) (l : List ℕ) → Mem d l → Mem d (cons_if b c l)
cons_if_tail true c d l m = there m
cons_if_tail false c d l m = m

pub cons_if_cases : (b : Bool) (c d : ℕ) (l : List ℕ) → Mem d (cons_if b c l) → ((d ≡ c) × T b) ⊎ Mem d l
cons_if_cases true c d l m = ⊎_elim (λ e. inl (e, tt)) (λ m'. inr m') (cases m)
cons_if_cases false c d l m = inr m

pub cons_if_asc : (b : Bool) (c : ℕ) (l : List ℕ) → ((d : ℕ) → Mem d l → c < d) → Asc l → Asc (cons_if b c l)
cons_if_asc true c l f a = (f, a)
cons_if_asc false c l f a = a

module _ (f : ℕ → Bool) where
  pub selected_in : (k lo c : ℕ) → lo ≤ c → c < lo + k → T (f c) → Mem c (selected f lo k)
  selected_in zero lo c h g t = absurd (omega arith)
  selected_in (suc k) lo c h g t =
      ⊎_elim (λ q. cons_if_tail (f lo) lo c (selected f (suc lo) k) (selected_in k (suc lo) c q (omega arith) t))
      (λ q. let e : c ≡ lo = omega arith in
      cast e (cons_if_head (f lo) lo (selected f (suc lo) k) (subst (λ (y : ℕ). T (f y)) e t))) (lt_or_ge lo c)

  pub selected_out : (k lo c : ℕ) → Mem c (selected f lo k) → (lo ≤ c) × (c < lo + k) × T (f c)
  selected_out zero lo c m = absurd (none m)
  selected_out (suc k) lo c m =
      ⊎_elim
      (λ w. (omega (arith, w.0), omega (arith, w.0), subst (λ (y : ℕ). T (f y)) (sym w.0) w.1))
      (λ m'. let w = selected_out k (suc lo) c m' in (omega (arith, w.0), omega (arith, w.1), w.2))
      (cons_if_cases (f lo) lo c (selected f (suc lo) k) m)

  pub selected_asc : (k lo : ℕ) → Asc (selected f lo k)
  selected_asc zero lo = tt
  selected_asc (suc k) lo =
      cons_if_asc (f lo) lo (selected f (suc lo) k) (λ d m. (selected_out k (suc lo) d m).0) (selected_asc k (suc lo))
