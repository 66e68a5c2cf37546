-- The flow test by its two halves: p is whether secrecy's implication holds, q whether integrity's does. Assumes nothing.
use mathlib.Core.Bool.{Bool, true, false, cond, ◌&&◌}
use mathlib.Core.Path.{◌≡◌, refl}
use mathlib.Core.Logic.{◌↔◌}
use Prim.Native.Nat.{ℕ, ◌+◌, ◌≤◌}
use native.Mathlib.Omega.{arith}
use lib.Dec.{T, eqb}
use borrow.Author.Tests.{eqb-false}
use Rattle.formulas.proofs.Tests.{T_left, T_right, T_eq}
use Rattle.labels.specs.Tables.{table_implies}
use Rattle.labels.specs.Order.{Told, flow_test, flows}
use Rattle.labels.specs.declared.Label.{Label}

abbrev answer : Bool → Bool → ℕ
answer p q = cond p 0 1 + cond q 0 2

pub at_most_3 : (p q : Bool) → answer p q ≤ 3
at_most_3 true true = omega arith
at_most_3 true false = omega arith
at_most_3 false true = omega arith
at_most_3 false false = omega arith

pub flow_test_at_most_3 : (a b : Label) → flow_test a b ≤ 3
unfolding flow_test
flow_test_at_most_3 a b = at_most_3 (table_implies b.secrecy a.secrecy) (table_implies a.integrity b.integrity)

-- ── it flows where both hold ──

zero : (p q : Bool) → eqb (answer p q) 0 ≡ p && q
zero true true = refl
zero true false = refl
zero false true = refl
zero false false = refl

pub flows_halves : (a b : Label) → flows a b ≡ table_implies b.secrecy a.secrecy && table_implies a.integrity b.integrity
unfolding flow_test
flows_halves a b = zero (table_implies b.secrecy a.secrecy) (table_implies a.integrity b.integrity)

pub flows_secrecy : (a b : Label) → T (flows a b) → T (table_implies b.secrecy a.secrecy)
flows_secrecy a b h = T_left (table_implies b.secrecy a.secrecy) (table_implies a.integrity b.integrity) (T_eq (flows_halves a b) h)

pub flows_integrity : (a b : Label) → T (flows a b) → T (table_implies a.integrity b.integrity)
flows_integrity a b h = T_right (table_implies b.secrecy a.secrecy) (table_implies a.integrity b.integrity) (T_eq (flows_halves a b) h)

-- ── each answer ──

is : {n : ℕ} {X : Type 0} → X → (n ≡ n) ↔ X
is x = (λ _. x, λ _. refl)

isn't : {n k : ℕ} {X : Type 0} → eqb n k ≡ false → (X → ⊥) → (n ≡ k) ↔ X
isn't {n} {k} h f = (λ e. absurd (eqb-false n k h e), λ x. absurd (f x))

pub told : {P Q : Type 0} (p q : Bool) → T p ↔ P → T q ↔ Q → Told (answer p q) P Q
told true true f g =
    let x = f.0 tt in let y = g.0 tt in
    record { none = is (x, y); secrecy = isn't refl (λ h. h.0 x); integrity = isn't refl (λ h. h.1 y); both = isn't refl (λ h. h.0 x) }
told true false f g =
    let x = f.0 tt in let y = g.1 in
    record { none = isn't refl (λ h. y h.1); secrecy = isn't refl (λ h. y h.1); integrity = is (x, y); both = isn't refl (λ h. h.0 x) }
told false true f g =
    let x = f.1 in let y = g.0 tt in
    record { none = isn't refl (λ h. x h.0); secrecy = is (x, y); integrity = isn't refl (λ h. x h.0); both = isn't refl (λ h. h.1 y) }
told false false f g =
    let x = f.1 in let y = g.1 in
    record { none = isn't refl (λ h. x h.0); secrecy = isn't refl (λ h. y h.1); integrity = isn't refl (λ h. x h.0); both = is (x, y) }
