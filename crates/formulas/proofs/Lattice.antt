-- The laws of an order with least upper bounds as one record, so that what rests on them is proved for any such order.
-- Greatest lower bounds are the least upper bounds of the order read backwards. Assumes nothing.
use mathlib.Core.Bool.{Bool, ◌&&◌}
use mathlib.Core.Path.{◌≡◌, sym, ap}
use mathlib.Core.Logic.{◌↔◌}
use Prim.Native.Nat.{ℕ}
use lib.Bits.{bit_and, bit_or}
use lib.Dec.{T}
use Rattle.formulas.specs.Formula.{implies}
use Rattle.formulas.proofs.Implication as implication
use Rattle.formulas.proofs.Tests.{T_and, T_left, T_right, T_eq}

-- a preorder with least upper bounds: what a proof of non-interference asks of `flows` and `join`
pub record Joins (L : Type 0) (le : L → L → Bool) (j : L → L → L) : Type 0 where
  pub le_refl : (a : L) → T (le a a)
  pub le_trans : (a b c : L) → T (le a b) → T (le b c) → T (le a c)
  pub le_left : (a b : L) → T (le a (j a b))
  pub le_right : (a b : L) → T (le b (j a b))
  pub le_least : (a b c : L) → T (le a c) → T (le b c) → T (le (j a b) c)

-- a least upper bound is below c if and only if both its parts are
pub joins_below : {L : Type 0} {le : L → L → Bool} {j : L → L → L} → Joins L le j → (a b c : L) → T (le (j a b) c) ↔ (T (le a c) × T (le b c))
joins_below {L} {le} {j} o a b c = (
  λ h. (o.le_trans a (j a b) c (o.le_left a b) h, o.le_trans b (j a b) c (o.le_right a b) h),
  λ h. o.le_least a b c h.0 h.1,
)

-- an order that goes by two parts, each with such an order
pub by_parts : {L A B : Type 0} {le_a : A → A → Bool} {j_a : A → A → A} {le_b : B → B → Bool} {j_b : B → B → B}
    (f : L → A) (g : L → B) (j : L → L → L) → Joins A le_a j_a → Joins B le_b j_b
    → ((a b : L) → f (j a b) ≡ j_a (f a) (f b)) → ((a b : L) → g (j a b) ≡ j_b (g a) (g b))
    → Joins L (λ a b. le_a (f a) (f b) && le_b (g a) (g b)) j
by_parts {L} {A} {B} {le_a} {j_a} {le_b} {j_b} f g j p q ef eg =
    record {
      le_refl = λ a. two a a (p.le_refl (f a)) (q.le_refl (g a));
      le_trans = λ a b c x y. two a c (p.le_trans (f a) (f b) (f c) (one a b x) (one b c y)) (q.le_trans (g a) (g b) (g c) (other a b x) (other b c y));
      le_left = λ a b. two a (j a b) (T_eq (ap (le_a (f a)) (sym (ef a b))) (p.le_left (f a) (f b))) (T_eq (ap (le_b (g a)) (sym (eg a b))) (q.le_left (g a) (g b)));
      le_right = λ a b. two b (j a b) (T_eq (ap (le_a (f b)) (sym (ef a b))) (p.le_right (f a) (f b))) (T_eq (ap (le_b (g b)) (sym (eg a b))) (q.le_right (g a) (g b)));
      le_least = λ a b c x y. two (j a b) c
          (T_eq (ap (λ (z : A). le_a z (f c)) (sym (ef a b))) (p.le_least (f a) (f b) (f c) (one a c x) (one b c y)))
          (T_eq (ap (λ (z : B). le_b z (g c)) (sym (eg a b))) (q.le_least (g a) (g b) (g c) (other a c x) (other b c y)));
    }
  where
    two : (a b : L) → T (le_a (f a) (f b)) → T (le_b (g a) (g b)) → T (le_a (f a) (f b) && le_b (g a) (g b))
    two a b x y = T_and (le_a (f a) (f b)) (le_b (g a) (g b)) x y

    one : (a b : L) → T (le_a (f a) (f b) && le_b (g a) (g b)) → T (le_a (f a) (f b))
    one a b x = T_left (le_a (f a) (f b)) (le_b (g a) (g b)) x

    other : (a b : L) → T (le_a (f a) (f b) && le_b (g a) (g b)) → T (le_b (g a) (g b))
    other a b x = T_right (le_a (f a) (f b)) (le_b (g a) (g b)) x

-- tables under implication, with OR
pub tables : Joins ℕ implies bit_or
tables =
    record {
      le_refl = implication.implies_refl;
      le_trans = implication.implies_trans;
      le_left = implication.or_left;
      le_right = implication.or_right;
      le_least = implication.or_least;
    }

-- tables under implication read backwards, with AND
pub tables_back : Joins ℕ (λ a b. implies b a) bit_and
tables_back =
    record {
      le_refl = implication.implies_refl;
      le_trans = λ a b c p q. implication.implies_trans c b a q p;
      le_left = implication.and_left;
      le_right = implication.and_right;
      le_least = implication.and_greatest;
    }
