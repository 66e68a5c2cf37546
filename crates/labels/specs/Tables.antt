-- Tables in words. T-07: "a table has 256 bits, written as four words, lowest first". Assumes nothing.
use Rattle.std.specs.Prelude.{Bool, ◌&&◌, ℕ, ◌+◌, ◌*◌, ◌/◌, ◌%◌, ◌^◌}
use Rattle.std.specs.Int.Bits.{bit_and, bit_or}
use Rattle.formulas.specs.Formula.{implies}
use Rattle.labels.specs.declared.Table.{Table}

-- Labels: player, dealer, bench, archive, record company, guest, numbered 0 to 5; T-07: "Principals 6 and 7 are added", the
-- hirer and the repair desk
abbrev pub principals : ℕ
principals = 8

-- the number whose binary digits are the bits of a table: four words of 64, lowest first
abbrev pub whole : Table → ℕ
whole t = ((t.word3 * 2 ^ 64 + t.word2) * 2 ^ 64 + t.word1) * 2 ^ 64 + t.word0

-- word k of a number: 64 of its binary digits, from 64 k on
abbrev pub word_at : ℕ → ℕ → ℕ
word_at k t = t / 2 ^ (64 * k) % 2 ^ 64

-- a number of up to 256 binary digits as the words of a table
abbrev pub in_words : ℕ → Table
in_words t = record { word0 = word_at 0 t; word1 = word_at 1 t; word2 = word_at 2 t; word3 = word_at 3 t }

-- one word below zeros: a number as wide as a table
abbrev pub lowest : ℕ → Table
lowest n = record { word0 = n; word1 = 0; word2 = 0; word3 = 0 }

-- ── on each word ──

-- every set in the table a is in the table b
unfoldable pub table_implies : Table → Table → Bool
table_implies a b =
    (implies a.word0 b.word0 && implies a.word1 b.word1)
    && (implies a.word2 b.word2 && implies a.word3 b.word3)

-- the table of the AND, and of the OR, of two formulas
abbrev pub table_and : Table → Table → Table
table_and a b =
    record {
      word0 = bit_and a.word0 b.word0;
      word1 = bit_and a.word1 b.word1;
      word2 = bit_and a.word2 b.word2;
      word3 = bit_and a.word3 b.word3;
    }

abbrev pub table_or : Table → Table → Table
table_or a b =
    record {
      word0 = bit_or a.word0 b.word0;
      word1 = bit_or a.word1 b.word1;
      word2 = bit_or a.word2 b.word2;
      word3 = bit_or a.word3 b.word3;
    }
