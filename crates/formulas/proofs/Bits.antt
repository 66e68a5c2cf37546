-- Laws of binary digits: selected of and, or and the complement, and that a number is known by its digits.
-- Assumes nothing.
use mathlib.Core.Path.{◌≡◌, refl, sym, ap, ◌∙◌}
use mathlib.Core.Bool.{Bool, true, false, not, ◌&&◌, ◌||◌, false≢true}
use Prim.Native.Nat.{ℕ, zero, suc, ◌+◌, ◌-◌, ◌*◌, ◌/◌, ◌%◌, ◌^◌, ◌≤◌, ◌<◌, zero-le, suc-le-suc, min, max}
use native.Mathlib.Nat.{le_of_suc-le-suc, not-suc-le-zero, zero-lt-suc, min-zero, max-zero, zero-min, zero-max, suc-min-suc, suc-max-suc, pow-suc, le_trans}
use native.Mathlib.Omega.{arith}
use lib.Bits.{bit_and, bit_or, and_step, or_step, and_shr, or_shr}
use lib.Arith.{digits_mod}
use lib.Pow.{shr-shr, field, mod-mod-pow, pow_mono}
use Rattle.formulas.specs.Bits.{nonzero, digit, bit, from_bits}

-- ---- one digit

nonzero-min : (a b : ℕ) → nonzero (min a b) ≡ (nonzero a && nonzero b)
nonzero-min zero b = ap nonzero (zero-min b)
nonzero-min (suc a) zero = ap nonzero (min-zero (suc a))
nonzero-min (suc a) (suc b) = ap nonzero (suc-min-suc a b)

nonzero-max : (a b : ℕ) → nonzero (max a b) ≡ (nonzero a || nonzero b)
nonzero-max zero b = ap nonzero (zero-max b)
nonzero-max (suc a) zero = ap nonzero (max-zero (suc a))
nonzero-max (suc a) (suc b) = ap nonzero (suc-max-suc a b)

-- a digit is known by its test
same_digit : (a b : ℕ) → a < 2 → b < 2 → nonzero a ≡ nonzero b → a ≡ b
same_digit zero zero ha hb e = refl
same_digit zero (suc b) ha hb e = absurd (false≢true e)
same_digit (suc a) zero ha hb e = absurd (false≢true (sym e))
same_digit (suc a) (suc b) ha hb e = omega arith

nonzero-flip : (a : ℕ) → a < 2 → nonzero (1 - a) ≡ not (nonzero a)
nonzero-flip zero h = refl
nonzero-flip (suc a) h = ap nonzero (let z : 1 - suc a ≡ 0 = omega arith in z)

digit_lt : (b : Bool) → digit b < 2
digit_lt true = omega arith
digit_lt false = omega arith

nonzero-digit : (b : Bool) → nonzero (digit b) ≡ b
nonzero-digit true = refl
nonzero-digit false = refl

-- ---- the digits of a number, one after the other

pub bit_zero : (t : ℕ) → bit t 0 ≡ nonzero (t % 2)
unfolding bit
bit_zero t = ap (λ (x : ℕ). nonzero (x % 2)) (let z : t / 1 ≡ t = omega arith in z)

pub bit_suc : (t i : ℕ) → bit t (suc i) ≡ bit (t / 2) i
unfolding bit
bit_suc t i =
    ap (λ (x : ℕ). nonzero (t / 2 ^ x % 2)) (let z : suc i ≡ 1 + i = omega arith in z)
    ∙ ap (λ (x : ℕ). nonzero (x % 2)) (sym (shr-shr t 1 i))

pub bit-and : (a b i : ℕ) → bit (bit_and a b) i ≡ (bit a i && bit b i)
unfolding bit
bit-and a b i =
    ap (λ (x : ℕ). nonzero (x % 2)) (and_shr a b i ∙ and_step (a / 2 ^ i) (b / 2 ^ i))
    ∙ ap nonzero (digits_mod (bit_and (a / 2 ^ i / 2) (b / 2 ^ i / 2)) (omega arith))
    ∙ nonzero-min (a / 2 ^ i % 2) (b / 2 ^ i % 2)

pub bit-or : (a b i : ℕ) → bit (bit_or a b) i ≡ (bit a i || bit b i)
unfolding bit
bit-or a b i =
    ap (λ (x : ℕ). nonzero (x % 2)) (or_shr a b i ∙ or_step (a / 2 ^ i) (b / 2 ^ i))
    ∙ ap nonzero (digits_mod (bit_or (a / 2 ^ i / 2) (b / 2 ^ i / 2)) (omega arith))
    ∙ nonzero-max (a / 2 ^ i % 2) (b / 2 ^ i % 2)

-- the digits from place k on
pub bit_shift : (t k i : ℕ) → bit (t / 2 ^ k) i ≡ bit t (k + i)
unfolding bit
bit_shift t k i = ap (λ (x : ℕ). nonzero (x % 2)) (shr-shr t k i)

-- the lowest k digits
pub bit_mod : (k t i : ℕ) → i < k → bit (t % 2 ^ k) i ≡ bit t i
unfolding bit
bit_mod k t i h =
    ap (λ (m : ℕ). nonzero (t % 2 ^ m / 2 ^ i % 2)) (let e : k ≡ (k - i) + i = omega arith in e)
    ∙ ap (λ (x : ℕ). nonzero (x % 2)) (field t (k - i) i)
    ∙ ap (λ (m : ℕ). nonzero (t / 2 ^ i % 2 ^ m % 2)) (let e : k - i ≡ (k - i - 1) + 1 = omega arith in e)
    ∙ ap nonzero (mod-mod-pow (t / 2 ^ i) (k - i - 1) 1)

half_lt : {a : ℕ} (k : ℕ) → a < 2 ^ suc k → a / 2 < 2 ^ k
half_lt {a} k h = let e = pow-suc 2 k in omega arith

-- a digit past the end is 0
pub bit_past : (k t i : ℕ) → t < 2 ^ k → k ≤ i → bit t i ≡ false
bit_past zero t zero ht hi = bit_zero t ∙ ap nonzero (let z : t % 2 ≡ 0 = omega arith in z)
bit_past zero t (suc i) ht hi = bit_suc t i ∙ bit_past zero (t / 2) i (omega arith) zero-le
bit_past (suc k) t zero ht hi = absurd (not-suc-le-zero hi)
bit_past (suc k) t (suc i) ht hi = bit_suc t i ∙ bit_past k (t / 2) i (half_lt k ht) (le_of_suc-le-suc hi)

-- two numbers of k digits with the same digits are equal
pub ext : (k a b : ℕ) → a < 2 ^ k → b < 2 ^ k → ((i : ℕ) → i < k → bit a i ≡ bit b i) → a ≡ b
ext zero a b ha hb h = omega arith
ext (suc k) a b ha hb h =
    let low : a % 2 ≡ b % 2 = same_digit (a % 2) (b % 2) (omega arith) (omega arith) (sym (bit_zero a) ∙ h 0 (zero-lt-suc k) ∙ bit_zero b) in
    let high : a / 2 ≡ b / 2 = ext k (a / 2) (b / 2) (half_lt k ha) (half_lt k hb) (λ i q. sym (bit_suc a i) ∙ h (suc i) (suc-le-suc q) ∙ bit_suc b i) in
    omega arith

lt_pow : (n : ℕ) → n < 2 ^ n
lt_pow zero = omega arith
lt_pow (suc n) = let e = pow-suc 2 n in let h = lt_pow n in omega arith

-- two numbers with the same digits are equal
pub same_bits : (a b : ℕ) → ((i : ℕ) → bit a i ≡ bit b i) → a ≡ b
same_bits a b h =
    ext (a + b) a b (below a (omega arith)) (below b (omega arith)) (λ i q. h i)
  where
    below : (m : ℕ) → m ≤ a + b → m < 2 ^ (a + b)
    below m q = le_trans (lt_pow m) (pow_mono q)

-- the complement in k digits
pub bit_complement : (k t i : ℕ) → t < 2 ^ k → i < k → bit (2 ^ k - 1 - t) i ≡ not (bit t i)
bit_complement zero t i ht hi = absurd (not-suc-le-zero hi)
bit_complement (suc k) t zero ht hi =
    bit_zero (2 ^ suc k - 1 - t)
    ∙ ap nonzero (let e = pow-suc 2 k in let z : (2 ^ suc k - 1 - t) % 2 ≡ 1 - t % 2 = omega arith in z)
    ∙ nonzero-flip (t % 2) (omega arith)
    ∙ ap not (sym (bit_zero t))
bit_complement (suc k) t (suc i) ht hi =
    bit_suc (2 ^ suc k - 1 - t) i
    ∙ ap (λ (x : ℕ). bit x i) (let e = pow-suc 2 k in let z : (2 ^ suc k - 1 - t) / 2 ≡ 2 ^ k - 1 - t / 2 = omega arith in z)
    ∙ bit_complement k (t / 2) i (half_lt k ht) (le_of_suc-le-suc hi)
    ∙ ap not (sym (bit_suc t i))

-- ---- the number with given digits

pub from_bits_lt : (k : ℕ) (f : ℕ → Bool) → from_bits k f < 2 ^ k
from_bits_lt zero f = omega arith
from_bits_lt (suc k) f =
    let e = pow-suc 2 k in let h = from_bits_lt k (λ i. f (suc i)) in let d = digit_lt (f 0) in omega arith

pub bit_from_bits : (k : ℕ) (f : ℕ → Bool) (i : ℕ) → i < k → bit (from_bits k f) i ≡ f i
bit_from_bits zero f i h = absurd (not-suc-le-zero h)
bit_from_bits (suc k) f zero h =
    bit_zero (from_bits (suc k) f) ∙ ap nonzero (digits_mod (from_bits k (λ i. f (suc i))) (digit_lt (f 0))) ∙ nonzero-digit (f 0)
bit_from_bits (suc k) f (suc i) h =
    bit_suc (from_bits (suc k) f) i
    ∙ ap (λ (x : ℕ). bit x i) (let d = digit_lt (f 0) in let z : (from_bits k (λ j. f (suc j)) * 2 + digit (f 0)) / 2 ≡ from_bits k (λ j. f (suc j)) = omega arith in z)
    ∙ bit_from_bits k (λ j. f (suc j)) i (le_of_suc-le-suc h)

pub from_bits_same : (k : ℕ) (f g : ℕ → Bool) → ((i : ℕ) → i < k → f i ≡ g i) → from_bits k f ≡ from_bits k g
from_bits_same k f g h = ext k (from_bits k f) (from_bits k g) (from_bits_lt k f) (from_bits_lt k g) (λ i q. bit_from_bits k f i q ∙ h i q ∙ sym (bit_from_bits k g i q))
