-- A table of four words as one number: taking it apart and putting it together, and what is done on each word is done on
-- the number. Assumes nothing.
use mathlib.Core.Path.{◌≡◌, sym, ap, ap₂, ◌∙◌}
use mathlib.Core.Bool.{Bool, ◌&&◌, and_assoc}
use Prim.Native.Nat.{ℕ, ◌+◌, ◌*◌, ◌/◌, ◌%◌, ◌^◌, ◌<◌}
use native.Mathlib.Nat.{mod-lt, mod-eq_of_lt}
use native.Mathlib.Omega.{arith}
use lib.Bits.{bit_and, bit_or, and_block, and_lt, and_shr, or_shr, and_mod, or_mod}
use lib.Dec.{eqb, eqb→eq}
use lib.Pow.{high, low, shr-shr, split, shr_mod, pow_pos}
use borrow.Author.Tests.{eq-eqb}
use Rattle.formulas.specs.Formula.{implies}
use Rattle.formulas.specs.Bits.{bit}
use Rattle.formulas.proofs.Bits.{bit_mod, bit_shift}
use Rattle.formulas.proofs.Tests.{T_and, T_left, T_right, T_same, T_eq}
use Rattle.labels.specs.Tables.{whole, word_at, in_words, table_implies, table_and, table_or}
use Rattle.labels.specs.declared.Table.{Table}

-- each word has 64 binary digits at most
pub record Fits (t : Table) : Type 0 where
  pub fits0 : t.word0 < 2 ^ 64
  pub fits1 : t.word1 < 2 ^ 64
  pub fits2 : t.word2 < 2 ^ 64
  pub fits3 : t.word3 < 2 ^ 64

-- ── apart and together ──

pub words_fit : (n : ℕ) → Fits (in_words n)
words_fit n = record { fits0 = word 0; fits1 = word 1; fits2 = word 2; fits3 = word 3 }
  where
    word : (k : ℕ) → word_at k n < 2 ^ 64
    word k = mod-lt (n / 2 ^ (64 * k)) (pow_pos 64)

div_one : (n : ℕ) → n / 1 ≡ n
div_one n = omega arith

-- what lies above the lowest word of a number
above : (k hi lo : ℕ) → lo < 2 ^ 64 → (hi * 2 ^ 64 + lo) / 2 ^ (64 + k) ≡ hi / 2 ^ k
above k hi lo h = sym (shr-shr (hi * 2 ^ 64 + lo) 64 k) ∙ ap (λ (x : ℕ). x / 2 ^ k) (high hi 64 h)

pub words_whole : (t : Table) → Fits t → in_words (whole t) ≡ t
words_whole t f =
    λ k. record {
      word0 = (ap (λ (x : ℕ). x % 2 ^ 64) (div_one (whole t)) ∙ low above0 64 f.fits0) k;
      word1 = (ap (λ (x : ℕ). x % 2 ^ 64) (high above0 64 f.fits0) ∙ low above1 64 f.fits1) k;
      word2 = (ap (λ (x : ℕ). x % 2 ^ 64) (above 64 above0 t.word0 f.fits0 ∙ high above1 64 f.fits1) ∙ low t.word3 64 f.fits2) k;
      word3 =
          (ap (λ (x : ℕ). x % 2 ^ 64) (above 128 above0 t.word0 f.fits0 ∙ above 64 above1 t.word1 f.fits1 ∙ high t.word3 64 f.fits2)
          ∙ mod-eq_of_lt f.fits3) k;
    }
  where
    above1 : ℕ
    above1 = t.word3 * 2 ^ 64 + t.word2

    above0 : ℕ
    above0 = above1 * 2 ^ 64 + t.word1

pub whole_words : (n : ℕ) → n < 2 ^ 256 → whole (in_words n) ≡ n
whole_words n h =
    ap (λ (x : ℕ). ((x * 2 ^ 64 + word_at 2 n) * 2 ^ 64 + word_at 1 n) * 2 ^ 64 + word_at 0 n) (shr_mod 64 192 h ∙ sym (shr-shr n 128 64))
    ∙ ap (λ (x : ℕ). (x * 2 ^ 64 + word_at 1 n) * 2 ^ 64 + word_at 0 n) (split (n / 2 ^ 128) 64 ∙ sym (shr-shr n 64 64))
    ∙ ap (λ (x : ℕ). x * 2 ^ 64 + word_at 0 n) (split (n / 2 ^ 64) 64)
    ∙ ap (λ (x : ℕ). n / 2 ^ 64 * 2 ^ 64 + x % 2 ^ 64) (div_one n)
    ∙ split n 64

-- a digit of a word is one of the number
pub bit_word : (k n i : ℕ) → i < 64 → bit (word_at k n) i ≡ bit n (64 * k + i)
bit_word k n i h = bit_mod 64 (n / 2 ^ (64 * k)) i h ∙ bit_shift n (64 * k) i

-- ── and, or ──

pub words_and : (a b : ℕ) → in_words (bit_and a b) ≡ table_and (in_words a) (in_words b)
words_and a b =
    λ j. record { word0 = word 0 j; word1 = word 1 j; word2 = word 2 j; word3 = word 3 j }
  where
    word : (k : ℕ) → word_at k (bit_and a b) ≡ bit_and (word_at k a) (word_at k b)
    word k = ap (λ (x : ℕ). x % 2 ^ 64) (and_shr a b (64 * k)) ∙ and_mod (a / 2 ^ (64 * k)) (b / 2 ^ (64 * k)) 64

pub words_or : (a b : ℕ) → in_words (bit_or a b) ≡ table_or (in_words a) (in_words b)
words_or a b =
    λ j. record { word0 = word 0 j; word1 = word 1 j; word2 = word 2 j; word3 = word 3 j }
  where
    word : (k : ℕ) → word_at k (bit_or a b) ≡ bit_or (word_at k a) (word_at k b)
    word k = ap (λ (x : ℕ). x % 2 ^ 64) (or_shr a b (64 * k)) ∙ or_mod (a / 2 ^ (64 * k)) (b / 2 ^ (64 * k)) 64

-- ── implication ──

-- two numbers of two parts are equal if and only if their parts are
parts_eq : (k a b r s : ℕ) → r < 2 ^ k → s < 2 ^ k → eqb (a * 2 ^ k + r) (b * 2 ^ k + s) ≡ (eqb r s && eqb a b)
parts_eq k a b r s hr hs =
    T_same (eqb (a * 2 ^ k + r) (b * 2 ^ k + s)) (eqb r s && eqb a b)
    (λ t. let e = eqb→eq (a * 2 ^ k + r) (b * 2 ^ k + s) t in
    T_and (eqb r s) (eqb a b)
    (T_eq (sym (eq-eqb r s (sym (low a k hr) ∙ ap (λ (x : ℕ). x % 2 ^ k) e ∙ low b k hs))) tt)
    (T_eq (sym (eq-eqb a b (sym (high a k hr) ∙ ap (λ (x : ℕ). x / 2 ^ k) e ∙ high b k hs))) tt))
    (λ t. T_eq (sym (eq-eqb (a * 2 ^ k + r) (b * 2 ^ k + s)
    (ap₂ (λ (x y : ℕ). x * 2 ^ k + y) (eqb→eq a b (T_right (eqb r s) (eqb a b) t)) (eqb→eq r s (T_left (eqb r s) (eqb a b) t))))) tt)

-- one part above the other
implies_parts : (k a b r s : ℕ) → r < 2 ^ k → s < 2 ^ k → implies (a * 2 ^ k + r) (b * 2 ^ k + s) ≡ (implies r s && implies a b)
unfolding implies
implies_parts k a b r s hr hs =
    ap (λ (x : ℕ). eqb x (a * 2 ^ k + r)) (and_block k a b r s hr hs) ∙ parts_eq k (bit_and a b) a (bit_and r s) r (and_lt k r s hr hs) hr

-- on each word it is on the whole
pub implies_whole : (a b : Table) → Fits a → Fits b → implies (whole a) (whole b) ≡ table_implies a b
unfolding table_implies
implies_whole a b p q =
    implies_parts 64 _ _ a.word0 b.word0 p.fits0 q.fits0
    ∙ ap (λ (t : Bool). implies a.word0 b.word0 && t)
    (implies_parts 64 _ _ a.word1 b.word1 p.fits1 q.fits1
    ∙ ap (λ (t : Bool). implies a.word1 b.word1 && t)
    (implies_parts 64 a.word3 b.word3 a.word2 b.word2 p.fits2 q.fits2))
    ∙ sym (and_assoc (implies a.word0 b.word0) (implies a.word1 b.word1) (implies a.word2 b.word2 && implies a.word3 b.word3))

pub implies_words : (a b : ℕ) → a < 2 ^ 256 → b < 2 ^ 256 → table_implies (in_words a) (in_words b) ≡ implies a b
implies_words a b p q =
    sym (implies_whole (in_words a) (in_words b) (words_fit a) (words_fit b)) ∙ ap₂ implies (whole_words a p) (whole_words b q)
