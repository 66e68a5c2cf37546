-- Laws of clauses, formulas and tables, for any number of principals. Assumes nothing.
use mathlib.Core.Path.{◌≡◌, refl, sym, ap, ap₂, ◌∙◌}
use mathlib.Core.Bool.{Bool, ◌&&◌, ◌||◌, and_assoc, or-and_distrib_left, or-and_distrib_right, or-true}
use mathlib.Core.List.{List, [], ◌∷◌, map}
use mathlib.Core.Logic.{⊎_elim}
use Prim.Native.Nat.{ℕ, zero, suc, ◌/◌, ◌%◌, ◌^◌, ◌<◌, zero-le}
use native.Mathlib.Nat.{lt_of_le_of_lt}
use native.Mathlib.Omega.{arith}
use lib.Arith.{bin_ind}
use lib.Bits.{bit_and, bit_or, and_le_l, or_lt}
use lib.Dec.{T}
use Rattle.formulas.specs.Bits.{bit, nonzero}
use Rattle.formulas.specs.Formula.{holds, satisfied, conjunction, disjunction, table}
use Rattle.formulas.proofs.Bits.{bit_zero, bit_suc, bit-and, bit-or, bit_past, bit_from_bits, from_bits_lt, ext}
use Rattle.formulas.proofs.Tests.{T_and, T_left, T_right, T_inl, T_inr, T_or, T_same, T_eq}

-- ---- a number that is not 0 has a digit that is not 0

some_bit : (a : ℕ) → T (nonzero a) → (p : ℕ) × T (bit a p)
some_bit =
    bin_ind (λ (n : ℕ). T (nonzero n) → (p : ℕ) × T (bit n p)) (λ t. absurd t)
    (λ n ih t. low n ih t (n % 2) refl)
  where
    high : (n : ℕ) → ((p : ℕ) × T (bit (n / 2) p)) → (p : ℕ) × T (bit n p)
    high n w = (suc w.0, T_eq (sym (bit_suc n w.0)) w.1)

    half : (n : ℕ) → T (nonzero n) → n % 2 ≡ 0 → T (nonzero (n / 2))
    half zero t e = absurd t
    half (suc n) t e = pos (suc n / 2) (omega arith)
      where
        pos : (m : ℕ) → 0 < m → T (nonzero m)
        pos zero h = absurd (omega arith)
        pos (suc m) h = tt

    low : (n : ℕ) → (T (nonzero (n / 2)) → (p : ℕ) × T (bit (n / 2) p)) → T (nonzero n) → (r : ℕ) → n % 2 ≡ r → (p : ℕ) × T (bit n p)
    low n ih t zero e = high n (ih (half n t e))
    low n ih t (suc r) e = (0, T_eq (sym (bit_zero n ∙ ap nonzero e)) tt)

bit_nonzero : (a p : ℕ) → T (bit a p) → T (nonzero a)
bit_nonzero zero p t = T_eq (bit_past 0 0 p (omega arith) zero-le) t
bit_nonzero (suc a) p t = tt

-- ---- a clause holds for a set if and only if they share a member

pub shares : (c x : ℕ) → T (holds c x) → (p : ℕ) × T (bit c p) × T (bit x p)
unfolding holds
shares c x h =
    let w = some_bit (bit_and c x) h in
    let b = T_eq (bit-and c x w.0) w.1 in
    (w.0, T_left (bit c w.0) (bit x w.0) b, T_right (bit c w.0) (bit x w.0) b)

pub holds_at : (c x p : ℕ) → T (bit c p) → T (bit x p) → T (holds c x)
unfolding holds
holds_at c x p hc hx = bit_nonzero (bit_and c x) p (T_eq (sym (bit-and c x p)) (T_and (bit c p) (bit x p) hc hx))

holds_or : (c d x : ℕ) → holds (bit_or c d) x ≡ (holds c x || holds d x)
holds_or c d x =
    T_same (holds (bit_or c d) x) (holds c x || holds d x)
    (λ h. let w = shares (bit_or c d) x h in
    ⊎_elim (λ a. T_inl (holds c x) (holds d x) (holds_at c x w.0 a w.2)) (λ b. T_inr (holds c x) (holds d x) (holds_at d x w.0 b w.2))
    (T_or (bit c w.0) (bit d w.0) (T_eq (bit-or c d w.0) w.1)))
    (λ h. ⊎_elim
    (λ a. let w = shares c x a in holds_at (bit_or c d) x w.0 (T_eq (sym (bit-or c d w.0)) (T_inl (bit c w.0) (bit d w.0) w.1)) w.2)
    (λ b. let w = shares d x b in holds_at (bit_or c d) x w.0 (T_eq (sym (bit-or c d w.0)) (T_inr (bit c w.0) (bit d w.0) w.1)) w.2)
    (T_or (holds c x) (holds d x) h))

-- ---- tables

-- digit x of a table says whether the set x satisfies the formula
pub bit_table : (n : ℕ) (cs : List ℕ) (x : ℕ) → x < 2 ^ n → bit (table n cs) x ≡ satisfied cs x
unfolding table
bit_table n cs x h = bit_from_bits (2 ^ n) (satisfied cs) x h

pub table_lt : (n : ℕ) (cs : List ℕ) → table n cs < 2 ^ (2 ^ n)
unfolding table
table_lt n cs = from_bits_lt (2 ^ n) (satisfied cs)

-- a table is known by what it says of every set
pub table_ext : (n t : ℕ) (cs : List ℕ) → t < 2 ^ (2 ^ n) → ((x : ℕ) → x < 2 ^ n → satisfied cs x ≡ bit t x) → table n cs ≡ t
table_ext n t cs h f = ext (2 ^ n) (table n cs) t (table_lt n cs) h (λ x hx. bit_table n cs x hx ∙ f x hx)

-- ---- AND

satisfied_conjunction : (cs ds : List ℕ) (x : ℕ) → satisfied (conjunction cs ds) x ≡ (satisfied cs x && satisfied ds x)
satisfied_conjunction [] ds x = refl
satisfied_conjunction (c ∷ cs) ds x =
    ap (λ (b : Bool). holds c x && b) (satisfied_conjunction cs ds x) ∙ sym (and_assoc (holds c x) (satisfied cs x) (satisfied ds x))

pub table_conjunction : (n : ℕ) (cs ds : List ℕ) → table n (conjunction cs ds) ≡ bit_and (table n cs) (table n ds)
table_conjunction n cs ds =
    table_ext n (bit_and (table n cs) (table n ds)) (conjunction cs ds) (lt_of_le_of_lt (and_le_l (table n cs) (table n ds)) (table_lt n cs))
    (λ x h. satisfied_conjunction cs ds x
    ∙ sym (bit-and (table n cs) (table n ds) x ∙ ap₂ (λ (a b : Bool). a && b) (bit_table n cs x h) (bit_table n ds x h)))

-- ---- OR

united : (c : ℕ) (ds : List ℕ) (x : ℕ) → satisfied (map (bit_or c) ds) x ≡ (holds c x || satisfied ds x)
united c [] x = sym (or-true (holds c x))
united c (d ∷ ds) x =
    ap₂ (λ (a b : Bool). a && b) (holds_or c d x) (united c ds x) ∙ sym (or-and_distrib_left (holds c x) (holds d x) (satisfied ds x))

satisfied_disjunction : (cs ds : List ℕ) (x : ℕ) → satisfied (disjunction cs ds) x ≡ (satisfied cs x || satisfied ds x)
satisfied_disjunction [] ds x = refl
satisfied_disjunction (c ∷ cs) ds x =
    satisfied_conjunction (map (bit_or c) ds) (disjunction cs ds) x
    ∙ ap₂ (λ (a b : Bool). a && b) (united c ds x) (satisfied_disjunction cs ds x)
    ∙ sym (or-and_distrib_right (holds c x) (satisfied cs x) (satisfied ds x))

pub table_disjunction : (n : ℕ) (cs ds : List ℕ) → table n (disjunction cs ds) ≡ bit_or (table n cs) (table n ds)
table_disjunction n cs ds =
    table_ext n (bit_or (table n cs) (table n ds)) (disjunction cs ds) (or_lt (2 ^ n) (table n cs) (table n ds) (table_lt n cs) (table_lt n ds))
    (λ x h. satisfied_disjunction cs ds x
    ∙ sym (bit-or (table n cs) (table n ds) x ∙ ap₂ (λ (a b : Bool). a || b) (bit_table n cs x h) (bit_table n ds x h)))
