-- Sets of n principals as masks: subsets, singletons, complements, and when a formula holds for a set. Assumes nothing.
use mathlib.Core.Path.{◌≡◌, refl, sym, ap, ◌∙◌, subst}
use mathlib.Core.List.Memᴰ.{cases_cons as cases}
use mathlib.Core.List.Memᴰ.{head as here}
use mathlib.Core.List.Memᴰ.{not-nil as none}
use mathlib.Core.List.Memᴰ.{tail as there}
use mathlib.Core.List.{List, [], ◌∷◌, Memᴰ as Mem}
use mathlib.Core.Logic.{◌⊎◌, inl, inr, ⊎_elim}
use Prim.Native.Nat.{ℕ, zero, suc, ◌/◌, ◌%◌, ◌-◌, ◌^◌, ◌≤◌, ◌<◌, zero-le, suc-le-suc}
use native.Mathlib.Nat.{le_of_eq, le_trans, pow-suc}
use native.Mathlib.Omega.{arith}
use lib.Bits.{bit_and, bit_or, and_le_r, or_lt}
use lib.Dec.{T, eqb→eq, T_not, not_T}
use lib.Pow.{pow_pos, pow-lt}
use Rattle.formulas.specs.Bits.{bit, nonzero}
use Rattle.formulas.specs.Formula.{holds, satisfied, implies}
use Rattle.formulas.proofs.Bits.{bit_zero, bit_suc, bit-or, bit_past, bit_complement}
use Rattle.formulas.proofs.Formula.{shares, holds_at}
use Rattle.formulas.proofs.Implication.{implies_at, at_implies}
use Rattle.formulas.proofs.Tests.{T_and, T_left, T_right, T_inl, T_inr, T_or, T_eq, T_stable, lt_or_ge, either}

-- a subset is no larger a number
pub subset_le : (a b : ℕ) → T (implies a b) → a ≤ b
unfolding implies
subset_le a b h = le_trans (le_of_eq (sym (eqb→eq (bit_and a b) a h))) (and_le_r a b)

-- a member of a set of n principals is below n
pub member_lt : (n x p : ℕ) → x < 2 ^ n → T (bit x p) → p < n
member_lt n x p hx t = ⊎_elim (λ h. h) (λ h. absurd (T_eq (bit_past n x p hx h) t)) (lt_or_ge p n)

-- the set with the one member p
self_single : (p : ℕ) → T (bit (2 ^ p) p)
self_single zero = T_eq (sym (bit_zero 1)) tt
self_single (suc p) =
    T_eq (sym (bit_suc (2 ^ suc p) p ∙ ap (λ (x : ℕ). bit x p) (let e = pow-suc 2 p in let z : 2 ^ suc p / 2 ≡ 2 ^ p = omega arith in z)))
    (self_single p)

single : (p q : ℕ) → T (bit (2 ^ p) q) → q ≡ p
single zero zero t = refl
single zero (suc q) t = absurd (T_eq (bit_past 1 1 (suc q) (omega arith) (suc-le-suc zero-le)) t)
single (suc p) zero t =
    absurd (T_eq (bit_zero (2 ^ suc p) ∙ ap nonzero (let e = pow-suc 2 p in let z : 2 ^ suc p % 2 ≡ 0 = omega arith in z)) t)
single (suc p) (suc q) t =
    ap suc (single p q (T_eq (bit_suc (2 ^ suc p) q ∙ ap (λ (x : ℕ). bit x q) (let e = pow-suc 2 p in let z : 2 ^ suc p / 2 ≡ 2 ^ p = omega arith in z)) t))

-- the set x with the principal p
abbrev pub adding : ℕ → ℕ → ℕ
adding x p = bit_or x (2 ^ p)

pub adding_lt : (n x p : ℕ) → x < 2 ^ n → p < n → adding x p < 2 ^ n
adding_lt n x p hx hp = or_lt n x (2 ^ p) hx (pow-lt hp)

pub adding_old : (x p q : ℕ) → T (bit x q) → T (bit (adding x p) q)
adding_old x p q t = T_eq (sym (bit-or x (2 ^ p) q)) (T_inl (bit x q) (bit (2 ^ p) q) t)

pub adding_new : (x p : ℕ) → T (bit (adding x p) p)
adding_new x p = T_eq (sym (bit-or x (2 ^ p) p)) (T_inr (bit x p) (bit (2 ^ p) p) (self_single p))

pub adding_cases : (x p q : ℕ) → T (bit (adding x p) q) → T (bit x q) ⊎ (q ≡ p)
adding_cases x p q t =
    ⊎_elim (λ u. inl u) (λ u. inr (single p q u)) (T_or (bit x q) (bit (2 ^ p) q) (T_eq (bit-or x (2 ^ p) q) t))

module _ (n : ℕ) where
  -- the principals outside c
  abbrev pub outside : ℕ → ℕ
  outside c = 2 ^ n - 1 - c

  pub outside_lt : (c : ℕ) → outside c < 2 ^ n
  outside_lt c = let h = pow_pos n in omega arith

  pub outside_twice : (c : ℕ) → c < 2 ^ n → outside (outside c) ≡ c
  outside_twice c h = omega arith

  pub out_in : (c p : ℕ) → c < 2 ^ n → T (bit (outside c) p) → T (bit c p) → ⊥
  out_in c p hc t u =
      T_not (bit c p) (T_eq (bit_complement n c p hc (member_lt n (outside c) p (outside_lt c) t)) t) u

  pub in_or_out : (c p : ℕ) → c < 2 ^ n → p < n → (T (bit c p) → ⊥) → T (bit (outside c) p)
  in_or_out c p hc hp f = T_eq (sym (bit_complement n c p hc hp)) (not_T (bit c p) f)

  -- a clause that does not hold for the set outside c is a subset of c, and the other way round
  pub disjoint_sub : (d c : ℕ) → d < 2 ^ n → c < 2 ^ n → (T (holds d (outside c)) → ⊥) → T (implies d c)
  disjoint_sub d c hd hc f =
      at_implies d c (λ p t. T_stable (bit c p) (λ g. f (holds_at d (outside c) p t (in_or_out c p hc (member_lt n d p hd t) g))))

  pub sub_disjoint : (d c : ℕ) → c < 2 ^ n → T (implies d c) → T (holds d (outside c)) → ⊥
  sub_disjoint d c hc s h =
      let w = shares d (outside c) h in out_in c w.0 hc w.2 (implies_at d c s w.0 w.1)

-- ---- a formula, clause by clause

pub satisfied_at : (cs : List ℕ) (x d : ℕ) → T (satisfied cs x) → Mem d cs → T (holds d x)
satisfied_at [] x d t m = absurd (none m)
satisfied_at (c ∷ cs) x d t m =
    ⊎_elim (λ e. subst (λ (y : ℕ). T (holds y x)) (sym e) (T_left (holds c x) (satisfied cs x) t))
    (λ m'. satisfied_at cs x d (T_right (holds c x) (satisfied cs x) t) m') (cases m)

pub satisfied_of : (cs : List ℕ) (x : ℕ) → ((d : ℕ) → Mem d cs → T (holds d x)) → T (satisfied cs x)
satisfied_of [] x f = tt
satisfied_of (c ∷ cs) x f = T_and (holds c x) (satisfied cs x) (f c (here refl)) (satisfied_of cs x (λ d m. f d (there m)))

-- a formula that a set does not satisfy has a clause that does not hold for it
pub satisfied_find : (cs : List ℕ) (x : ℕ) → (T (satisfied cs x) → ⊥) → (d : ℕ) × Mem d cs × (T (holds d x) → ⊥)
satisfied_find [] x f = absurd (f tt)
satisfied_find (c ∷ cs) x f =
    ⊎_elim
    (λ t. let w = satisfied_find cs x (λ u. f (T_and (holds c x) (satisfied cs x) t u)) in (w.0, there w.1, w.2))
    (λ g. (c, here refl, g))
    (either (holds c x))

-- a set that satisfies a formula does so with more members
pub satisfied_mono : (cs : List ℕ) (x y : ℕ) → T (implies x y) → T (satisfied cs x) → T (satisfied cs y)
satisfied_mono cs x y s t =
    satisfied_of cs y (λ d m. let w = shares d x (satisfied_at cs x d t m) in holds_at d y w.0 w.1 (implies_at x y s w.0 w.2))
