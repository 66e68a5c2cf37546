-- Tests as facts: `T b` says that the test b passes. Assumes nothing.
use mathlib.Core.Path.{◌≡◌, refl, subst}
use mathlib.Core.Bool.{Bool, true, false, ◌&&◌, ◌||◌}
use mathlib.Core.Logic.{◌⊎◌, inl, inr, ⊎_elim}
use Prim.Native.Nat.{ℕ, zero, suc, ◌≤◌, ◌<◌, zero-le, suc-le-suc}
use lib.Dec.{T}

pub T_and : (a b : Bool) → T a → T b → T (a && b)
T_and true b p q = q
T_and false b p q = p

pub T_left : (a b : Bool) → T (a && b) → T a
T_left true b p = tt
T_left false b p = p

pub T_right : (a b : Bool) → T (a && b) → T b
T_right true b p = p
T_right false b p = absurd p

pub T_inl : (a b : Bool) → T a → T (a || b)
T_inl true b p = tt
T_inl false b p = absurd p

pub T_inr : (a b : Bool) → T b → T (a || b)
T_inr true b p = tt
T_inr false b p = p

pub T_or : (a b : Bool) → T (a || b) → T a ⊎ T b
T_or true b p = inl tt
T_or false b p = inr p

pub T_same : (a b : Bool) → (T a → T b) → (T b → T a) → a ≡ b
T_same true true f g = refl
T_same true false f g = absurd (f tt)
T_same false true f g = absurd (g tt)
T_same false false f g = refl

pub T_eq : {a b : Bool} → a ≡ b → T a → T b
T_eq e t = subst T e t

pub T_true : (a : Bool) → T a → a ≡ true
T_true true t = refl
T_true false t = absurd t

-- a test passes or fails
pub either : (b : Bool) → T b ⊎ (T b → ⊥)
either true = inl tt
either false = inr (λ t. t)

-- what cannot fail passes
pub T_stable : (b : Bool) → ((T b → ⊥) → ⊥) → T b
T_stable true f = tt
T_stable false f = absurd (f (λ t. t))

pub lt_or_ge : (a b : ℕ) → (a < b) ⊎ (b ≤ a)
lt_or_ge a zero = inr zero-le
lt_or_ge zero (suc b) = inl (suc-le-suc zero-le)
lt_or_ge (suc a) (suc b) = ⊎_elim (λ p. inl (suc-le-suc p)) (λ q. inr (suc-le-suc q)) (lt_or_ge a b)
