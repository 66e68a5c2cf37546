-- What the machine computes by shifts and masks, as digits of numbers, and the table of a clause. Assumes nothing.
use mathlib.Core.Path.{◌≡◌, refl, sym, ap, ap₂, ◌∙◌}
use mathlib.Core.Bool.{Bool, true, false, not, ◌&&◌, ◌||◌, true≢false, false≢true}
use mathlib.Core.List.{List, [], ◌∷◌}
use Prim.Native.Nat.{ℕ, zero, suc, ◌+◌, ◌-◌, ◌*◌, ◌/◌, ◌%◌, ◌^◌, ◌≤◌, ◌<◌, zero-le}
use native.Mathlib.Nat.{mod-lt, one-mul, mod-eq_of_lt, lt_of_le_of_lt}
use native.Mathlib.Numerals.{add-one}
use native.Mathlib.Omega.{arith}
use lib.Bits.{bit_and, bit_or, and_mask, or_shifted_r, and_mod, and_le_r, and_block, and_zero_r}
use lib.Dec.{eqb, eqb→eq, eqb-suc-zero}
use lib.ListN.{get_or}
use lib.Pow.{mod-pow-add, pow_pos, split}
use Rattle.formulas.specs.Bits.{bit, nonzero}
use Rattle.formulas.specs.Formula.{holds, satisfied, table}
use Rattle.formulas.proofs.Bits.{from_bits_same, ext, bit_past, bit_complement}
use Rattle.formulas.proofs.Formula.{table_disjunction, table_lt, bit_table}
use Rattle.formulas.proofs.Lists.{all_below_at}
use Rattle.labels.specs.Tables.{principals, whole, word_at}
use Rattle.labels.specs.declared.Table.{Table}
use Rattle.labels.proofs.Wide.{Fits, words_whole, bit_word}

-- `x != 0`
nonzero-test : (x : ℕ) → not (eqb x 0) ≡ nonzero x
nonzero-test zero = refl
nonzero-test (suc x) = ap not (eqb-suc-zero x)

-- `t >> i & 1 != 0`
pub has_test : (t i : ℕ) → not (eqb (bit_and (t / 2 ^ i) 1) 0) ≡ bit t i
unfolding bit
has_test t i = nonzero-test (bit_and (t / 2 ^ i) 1) ∙ ap nonzero (and_mask (t / 2 ^ i) 1)

-- the digits below p and digit p are the digits below p + 1
low_digits : (m p : ℕ) → m % 2 ^ suc p ≡ (m / 2 ^ p % 2) * 2 ^ p + m % 2 ^ p
low_digits m p = ap (λ (k : ℕ). m % 2 ^ k) (let e : suc p ≡ 1 + p = omega arith in e) ∙ mod-pow-add m 1 p

digit_one : (x : ℕ) → x < 2 → nonzero x ≡ true → x ≡ 1
digit_one zero h e = absurd (false≢true e)
digit_one (suc x) h e = omega arith

digit_none : (x : ℕ) → nonzero x ≡ false → x ≡ 0
digit_none zero e = refl
digit_none (suc x) e = absurd (true≢false e)

low_with : (m p : ℕ) → bit m p ≡ true → bit_or (m % 2 ^ p) (2 ^ p) ≡ m % 2 ^ suc p
unfolding bit
low_with m p e =
    ap (bit_or (m % 2 ^ p)) (sym (one-mul (2 ^ p))) ∙ or_shifted_r 1 p (m % 2 ^ p) (mod-lt m (pow_pos p))
    ∙ ap (λ (x : ℕ). x * 2 ^ p + m % 2 ^ p) (sym (digit_one (m / 2 ^ p % 2) (omega arith) e)) ∙ sym (low_digits m p)

low_without : (m p : ℕ) → bit m p ≡ false → m % 2 ^ p ≡ m % 2 ^ suc p
unfolding bit
low_without m p e =
    (let z : m % 2 ^ p ≡ 0 * 2 ^ p + m % 2 ^ p = omega arith in z)
    ∙ ap (λ (x : ℕ). x * 2 ^ p + m % 2 ^ p) (sym (digit_none (m / 2 ^ p % 2) e)) ∙ sym (low_digits m p)

-- the table of the union of two clauses is the OR of theirs
clause_or : (n c d : ℕ) → table n (bit_or c d ∷ []) ≡ bit_or (table n (c ∷ [])) (table n (d ∷ []))
clause_or n c d = table_disjunction n (c ∷ []) (d ∷ [])

module _ (n m p t : ℕ) (e : t ≡ table n (m % 2 ^ p ∷ [])) where
  pub clause_with : (s : ℕ) → s ≡ table n (2 ^ p ∷ []) → bit m p ≡ true → bit_or t s ≡ table n (m % 2 ^ (p + 1) ∷ [])
  clause_with s q b =
      ap₂ bit_or e q ∙ sym (clause_or n (m % 2 ^ p) (2 ^ p))
      ∙ ap (λ (x : ℕ). table n (x ∷ [])) (low_with m p b ∙ ap (λ (k : ℕ). m % 2 ^ k) (sym (add-one p)))

  pub clause_without : bit m p ≡ false → t ≡ table n (m % 2 ^ (p + 1) ∷ [])
  clause_without b = e ∙ ap (λ (x : ℕ). table n (x ∷ [])) (low_without m p b ∙ ap (λ (k : ℕ). m % 2 ^ k) (sym (add-one p)))

-- the tables of the clauses with one member of six, as the source has them
abbrev singles : List ℕ
singles =
    0xAAAA_AAAA_AAAA_AAAA ∷ 0xCCCC_CCCC_CCCC_CCCC ∷ 0xF0F0_F0F0_F0F0_F0F0 ∷ 0xFF00_FF00_FF00_FF00
    ∷ 0xFFFF_0000_FFFF_0000 ∷ 0xFFFF_FFFF_0000_0000 ∷ []

pub single_table : (p : ℕ) → p < 6 → get_or singles p 0 ≡ table 6 (2 ^ p ∷ [])
unfolding table holds
single_table p h =
    eqb→eq (get_or singles p 0) (table 6 (2 ^ p ∷ [])) (all_below_at 6 (λ q. eqb (get_or singles q 0) (table 6 (2 ^ q ∷ []))) p tt h)

pub no_member : (m : ℕ) → 0 ≡ table 6 (m % 1 ∷ [])
unfolding table holds
no_member m = ap (λ (x : ℕ). table 6 (x ∷ [])) (let e : 0 ≡ m % 1 = omega arith in e)

-- principals past the n-th do not matter
table_mod : (n m : ℕ) → table n (m % 2 ^ n ∷ []) ≡ table n (m ∷ [])
unfolding table holds
table_mod n m =
    from_bits_same (2 ^ n) (satisfied (m % 2 ^ n ∷ [])) (satisfied (m ∷ [])) (λ x h. ap (λ (y : ℕ). nonzero y && true) (same x h))
  where
    same : (x : ℕ) → x < 2 ^ n → bit_and (m % 2 ^ n) x ≡ bit_and m x
    same x h =
        ap (bit_and (m % 2 ^ n)) (sym (mod-eq_of_lt h)) ∙ sym (and_mod m x n)
        ∙ mod-eq_of_lt (lt_of_le_of_lt (and_le_r m x) h)

-- once every member of six is passed
pub clause_whole : (m p : ℕ) → p ≡ 6 → table 6 (m % 2 ^ p ∷ []) ≡ table 6 (m ∷ [])
clause_whole m p e = ap (λ (k : ℕ). table 6 (m % 2 ^ k ∷ [])) e ∙ table_mod 6 m

-- ── a set in word k has the principals from 6 on that k has, and some of the first six ──

nonzero-sum : (x y : ℕ) → nonzero (x * 2 ^ 6 + y) ≡ (nonzero x || nonzero y)
nonzero-sum zero y = ap nonzero (let e : 0 * 64 + y ≡ y = omega arith in e)
nonzero-sum (suc x) y = ap nonzero (let e : suc x * 64 + y ≡ suc (x * 64 + y + 63) = omega arith in e)

pub holds_parts : (c k i : ℕ) → i < 64 → holds c (64 * k + i) ≡ (nonzero (bit_and (c / 2 ^ 6) k) || nonzero (bit_and (c % 2 ^ 6) i))
unfolding holds
holds_parts c k i h =
    ap₂ (λ (x y : ℕ). nonzero (bit_and x y)) (sym (split c 6)) (let e : 64 * k + i ≡ k * 2 ^ 6 + i = omega arith in e)
    ∙ ap nonzero (and_block 6 (c / 2 ^ 6) k (c % 2 ^ 6) i (mod-lt c (pow_pos 6)) h)
    ∙ nonzero-sum (bit_and (c / 2 ^ 6) k) (bit_and (c % 2 ^ 6) i)

-- in the lowest word stand the sets of the first six alone
holds_six : (c i : ℕ) → i < 64 → holds c i ≡ nonzero (bit_and (c % 2 ^ 6) i)
holds_six c i h =
    ap (holds c) (let e : i ≡ 64 * 0 + i = omega arith in e) ∙ holds_parts c 0 i h
    ∙ ap (λ (x : ℕ). nonzero x || nonzero (bit_and (c % 2 ^ 6) i)) (and_zero_r (c / 2 ^ 6))

module _ (m k : ℕ) (h : k < 4) where
  -- digit i of word k of a clause's table
  digit_of : (i : ℕ) → i < 64 → bit (word_at k (table principals (m ∷ []))) i ≡ (holds m (64 * k + i) && true)
  digit_of i q = bit_word k (table principals (m ∷ [])) i q ∙ bit_table principals (m ∷ []) (64 * k + i) (omega arith)

  pub clause_all : nonzero (bit_and (m / 2 ^ 6) k) ≡ true → 18446744073709551615 ≡ word_at k (table principals (m ∷ []))
  clause_all e =
      ext 64 18446744073709551615 (word_at k (table principals (m ∷ []))) (omega arith) (mod-lt (table principals (m ∷ []) / 2 ^ (64 * k)) (pow_pos 64)) (λ i q.
      bit_complement 64 0 i (omega arith) q ∙ ap not (bit_past 0 0 i (omega arith) zero-le)
      ∙ sym (digit_of i q ∙ ap (λ (b : Bool). b && true) (holds_parts m k i q ∙ ap (λ (b : Bool). b || nonzero (bit_and (m % 2 ^ 6) i)) e)))

  pub clause_six : nonzero (bit_and (m / 2 ^ 6) k) ≡ false → table 6 (m ∷ []) ≡ word_at k (table principals (m ∷ []))
  clause_six e =
      ext 64 (table 6 (m ∷ [])) (word_at k (table principals (m ∷ []))) (table_lt 6 (m ∷ [])) (mod-lt (table principals (m ∷ []) / 2 ^ (64 * k)) (pow_pos 64)) (λ i q.
      bit_table 6 (m ∷ []) i q ∙ ap (λ (b : Bool). b && true) (holds_six m i q)
      ∙ sym (digit_of i q ∙ ap (λ (b : Bool). b && true) (holds_parts m k i q ∙ ap (λ (b : Bool). b || nonzero (bit_and (m % 2 ^ 6) i)) e)))

pub nonzero-some : (x : ℕ) → (x ≡ 0 → ⊥) → nonzero x ≡ true
nonzero-some zero f = absurd (f refl)
nonzero-some (suc x) f = refl

-- ── a set of the whole table is one of a word ──

module _ (t : Table) (f : Fits t) where
  -- x stands in word k
  in_word : (k x : ℕ) → x - 64 * k < 64 → 64 * k ≤ x → bit (word_at k (whole t)) (x - 64 * k) ≡ bit (whole t) x
  in_word k x h q = bit_word k (whole t) (x - 64 * k) h ∙ ap (bit (whole t)) (let e : 64 * k + (x - 64 * k) ≡ x = omega arith in e)

  pub in_word0 : (x : ℕ) → x < 64 → bit t.word0 x ≡ bit (whole t) x
  in_word0 x h = ap (λ (u : Table). bit u.word0 x) (sym (words_whole t f)) ∙ bit_word 0 (whole t) x h ∙ ap (bit (whole t)) (let e : 64 * 0 + x ≡ x = omega arith in e)

  pub in_word1 : (x : ℕ) → 64 ≤ x → x < 128 → bit t.word1 (x - 64) ≡ bit (whole t) x
  in_word1 x q h = ap (λ (u : Table). bit u.word1 (x - 64)) (sym (words_whole t f)) ∙ in_word 1 x (omega arith) (omega arith)

  pub in_word2 : (x : ℕ) → 128 ≤ x → x < 192 → bit t.word2 (x - 128) ≡ bit (whole t) x
  in_word2 x q h = ap (λ (u : Table). bit u.word2 (x - 128)) (sym (words_whole t f)) ∙ in_word 2 x (omega arith) (omega arith)

  pub in_word3 : (x : ℕ) → 192 ≤ x → x < 256 → bit t.word3 (x - 192) ≡ bit (whole t) x
  in_word3 x q h = ap (λ (u : Table). bit u.word3 (x - 192)) (sym (words_whole t f)) ∙ in_word 3 x (omega arith) (omega arith)
