-- The table of a formula of the first six principals: over six it is one word, over eight that word four times.
use mathlib.Core.Bool.{Bool, ◌&&◌, ◌||◌}
use mathlib.Core.List.Memᴰ.{head as here}
use mathlib.Core.List.Memᴰ.{tail as there}
use mathlib.Core.List.{List, [], ◌∷◌}
use mathlib.Core.Path.{◌≡◌, refl, sym, ap, ap₂, ◌∙◌}
use Prim.Native.Nat.{ℕ, ◌+◌, ◌*◌, ◌/◌, ◌%◌, ◌^◌, ◌<◌, ◌≤◌}
use native.Mathlib.Nat.{mod-lt, mod-eq_of_lt, div-eq_of_lt, lt_of_lt_of_le}
use native.Mathlib.Omega.{arith}
use lib.Bits.{bit_and, and_zero_l}
use lib.Dec.{T}
use lib.Pow.{pow_pos, pow_mono}
use Rattle.formulas.specs.Bits.{nonzero}
use Rattle.formulas.specs.Formula.{holds, satisfied, table}
use Rattle.formulas.specs.Normal.{canonical}
use Rattle.formulas.proofs.Bits.{ext}
use Rattle.formulas.proofs.Canonical.{Within, canon_lt}
use Rattle.formulas.proofs.Formula.{bit_table, table_lt}
use Rattle.labels.specs.Tables.{principals, word_at, in_words, lowest}
use Rattle.labels.specs.Order.{label_over, label}
use Rattle.labels.specs.declared.Label.{Label}
use Rattle.labels.proofs.Wide.{bit_word}
use Rattle.label_entries.proofs.Words.{holds_parts}
use Rattle.old_files.specs.Repeating.{repeated_table, repeated}

-- ── over six ──

-- nothing stands above the lowest word
above_none : (t k : ℕ) → t < 2 ^ 64 → 64 ≤ k → t / 2 ^ k % 2 ^ 64 ≡ 0
above_none t k h q = ap (λ (x : ℕ). x % 2 ^ 64) (div-eq_of_lt (lt_of_lt_of_le h (pow_mono q)))

first_word : (t : ℕ) → t < 2 ^ 64 → word_at 0 t ≡ t
first_word t h = ap (λ (x : ℕ). x % 2 ^ 64) (one t) ∙ mod-eq_of_lt h
  where
    one : (n : ℕ) → n / 1 ≡ n
    one n = omega arith

pub six_lowest : (cs : List ℕ) → in_words (table 6 cs) ≡ lowest (table 6 cs)
six_lowest cs =
    let h = table_lt 6 cs in
    λ k. record {
      word0 = first_word (table 6 cs) h k;
      word1 = above_none (table 6 cs) 64 h (omega arith) k;
      word2 = above_none (table 6 cs) 128 h (omega arith) k;
      word3 = above_none (table 6 cs) 192 h (omega arith) k;
    }

-- ── over eight ──

-- principals from 6 on make no difference to a clause of the first six
holds_low : (c k i : ℕ) → c < 64 → i < 64 → holds c (64 * k + i) ≡ nonzero (bit_and (c % 2 ^ 6) i)
holds_low c k i h q =
    holds_parts c k i q
    ∙ ap (λ (x : ℕ). nonzero (bit_and x k) || nonzero (bit_and (c % 2 ^ 6) i)) (div-eq_of_lt h)
    ∙ ap (λ (x : ℕ). nonzero x || nonzero (bit_and (c % 2 ^ 6) i)) (and_zero_l k)

satisfied_low : (cs : List ℕ) (k i : ℕ) → Within 6 cs → i < 64 → satisfied cs (64 * k + i) ≡ satisfied cs (64 * 0 + i)
satisfied_low [] k i w q = refl
satisfied_low (c ∷ cs) k i w q =
    ap₂ (λ (x y : Bool). x && y) (holds_low c k i (w c (here refl)) q ∙ sym (holds_low c 0 i (w c (here refl)) q))
    (satisfied_low cs k i (λ d m. w d (there m)) q)

module _ (cs : List ℕ) (w : Within 6 cs) where
  word_is : (k : ℕ) → k ≤ 3 → word_at k (table principals cs) ≡ table 6 cs
  word_is k h =
      ext 64 (word_at k (table principals cs)) (table 6 cs) (mod-lt (table principals cs / 2 ^ (64 * k)) (pow_pos 64)) (table_lt 6 cs) (λ i q.
      bit_word k (table principals cs) i q ∙ bit_table principals cs (64 * k + i) (omega arith)
      ∙ satisfied_low cs k i w q ∙ ap (satisfied cs) (let e : 64 * 0 + i ≡ i = omega arith in e) ∙ sym (bit_table 6 cs i q))

  pub eight_repeated : in_words (table principals cs) ≡ repeated_table (in_words (table 6 cs))
  eight_repeated =
      (λ k. record { word0 = word_is 0 (omega arith) k; word1 = word_is 1 (omega arith) k; word2 = word_is 2 (omega arith) k; word3 = word_is 3 (omega arith) k })
      ∙ ap repeated_table (sym (six_lowest cs))

-- ── labels ──

-- a label with its lowest words alone
abbrev pub low : Label → Label
low l = record { secrecy = lowest l.secrecy.word0; integrity = lowest l.integrity.word0 }

pub label_low : (S I : List ℕ) → low (label_over 6 S I) ≡ label_over 6 S I
label_low S I = ap low is ∙ sym is
  where
    is : label_over 6 S I ≡ record { secrecy = lowest (table 6 S); integrity = lowest (table 6 I) }
    is = λ k. record { secrecy = six_lowest S k; integrity = six_lowest I k }

pub label_repeated : (S I : List ℕ) → T (canonical 6 S) → T (canonical 6 I) → label S I ≡ repeated (label_over 6 S I)
label_repeated S I p q = λ k. record { secrecy = eight_repeated S (canon_lt 6 S p) k; integrity = eight_repeated I (canon_lt 6 I q) k }
