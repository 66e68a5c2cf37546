-- A number in decimal: one digit, or those of its tenth and one more; ten at most where it has 32 bits.
use mathlib.Core.List.{List, [], ◌∷◌, ◌++◌}
use mathlib.Core.Path.{◌≡◌, refl, ap, ◌∙◌}
use Prim.Native.Nat.{ℕ, zero, suc, ◌+◌, ◌*◌, ◌/◌, ◌%◌, ◌≤◌, ◌<◌, ◌^◌}
use native.Mathlib.Decide.{dec_lt}
use native.Mathlib.Nat.{pow-suc}
use native.Mathlib.Omega.{arith}
use lib.ListN.{length, length-append}
use borrow.Author.Tests.{lt-ltb, le-ltb}
use Rattle.lines.specs.Lines.{digits, decimal}
use Rattle.quote.specs.declared.Figures.{Figures}
use Rattle.quote_lines.specs.Lines.{places_text, figures_line}

-- as many turns as the number is large are enough
enough : (k j n : ℕ) → n ≤ k → n ≤ j → digits k n ≡ digits j n
unfolding digits
enough zero zero n p q = refl
enough zero (suc j) n p q = rw (lt-ltb n 10 (omega arith))
enough (suc k) zero n p q = rw (lt-ltb n 10 (omega arith))
enough (suc k) (suc j) n p q = by (enough k j (n / 10)) (dec_lt n 10)
  where
    by : (n / 10 ≤ k → n / 10 ≤ j → digits k (n / 10) ≡ digits j (n / 10)) → Dec (n < 10) → digits (suc k) n ≡ digits (suc j) n
    by less (yes lt) = rw (lt-ltb n 10 lt)
    by less (no ge) =
        rw (le-ltb n 10 (omega arith)) (ap (λ (xs : List ℕ). xs ++ ((0x30 + n % 10) ∷ [])) (less (omega arith) (omega arith)))

pub one_digit : (n : ℕ) → n < 10 → decimal n ≡ (0x30 + n) ∷ []
unfolding decimal digits
one_digit zero lt = refl
one_digit (suc n) lt = rw (lt-ltb (suc n) 10 lt)

pub more_digits : (n : ℕ) → 10 ≤ n → decimal n ≡ decimal (n / 10) ++ ((0x30 + n % 10) ∷ [])
unfolding decimal digits
more_digits zero le = absurd (omega arith)
more_digits (suc n) le =
    rw (le-ltb (suc n) 10 le) (ap (λ (xs : List ℕ). xs ++ ((0x30 + suc n % 10) ∷ [])) (enough n (suc n / 10) (suc n / 10) (omega arith) (omega arith)))

-- no more digits than powers of ten
short : (k n : ℕ) → n < 10 ^ (k + 1) → length (decimal n) ≤ k + 1
short zero n lt = omega (arith, ap length (one_digit n lt))
short (suc k) n lt = by (short k (n / 10)) (dec_lt n 10)
  where
    ten_times : 10 ^ (suc k + 1) ≡ 10 * 10 ^ (k + 1)
    ten_times = let e : suc k + 1 ≡ suc (k + 1) = omega arith in ap (λ (x : ℕ). 10 ^ x) e ∙ pow-suc 10 (k + 1) ∙ omega arith

    by : (n / 10 < 10 ^ (k + 1) → length (decimal (n / 10)) ≤ k + 1) → Dec (n < 10) → length (decimal n) ≤ suc k + 1
    by less (yes small) = omega (arith, ap length (one_digit n small))
    by less (no large) =
        omega (
          arith,
          less (omega (arith, lt, ten_times)),
          ap length (more_digits n (omega arith)) ∙ length-append (decimal (n / 10)) ((0x30 + n % 10) ∷ []),
        )

pub at_most_ten : (n : ℕ) → n < 2 ^ 32 → length (decimal n) ≤ 10
at_most_ten n lt = short 9 n (omega arith)

-- ── the line ──

-- so a line has 35 bytes at most
pub line_short : (f : Figures) → f.steps < 2 ^ 32 → f.places < 2 ^ 32 → length (figures_line f) ≤ 35
unfolding figures_line
line_short f s p =
    omega (
      arith,
      at_most_ten f.steps s,
      at_most_ten f.places p,
      length-append (decimal f.steps) (places_text ++ (decimal f.places ++ (0x0A ∷ []))),
      length-append (decimal f.places) (0x0A ∷ []),
    )
