-- The laws of labels: `flows` is a partial order, join its least upper and meet its greatest lower bound. Assumes nothing.
use mathlib.Core.Path.{◌≡◌, refl, sym, subst}
use mathlib.Core.Bool.{Bool, ◌&&◌}
use mathlib.Core.Logic.{◌↔◌}
use lib.Dec.{T}
use Rattle.formulas.specs.Formula.{implies}
use Rattle.formulas.proofs.Implication.{implies_antisym}
use Rattle.formulas.proofs.Lattice.{Joins, joins_below, by_parts, tables, tables_back}
use Rattle.formulas.proofs.Tests.{T_left, T_right}
use Rattle.labels.specs.Tables.{table_implies, table_and, table_or}
use Rattle.labels.specs.Order.{flows, join, meet}
use Rattle.labels.specs.declared.Table.{Table}
use Rattle.labels.specs.declared.Label.{Label}
use Rattle.labels.proofs.Halves.{flows_halves, flows_secrecy, flows_integrity}

-- ── tables, word by word ──

-- under implication, with OR
wide : Joins Table table_implies table_or
unfolding table_implies
wide =
    by_parts (λ (t : Table). t) (λ (t : Table). t) table_or
    (by_parts (λ (t : Table). t.word0) (λ (t : Table). t.word1) table_or tables tables (λ a b. refl) (λ a b. refl))
    (by_parts (λ (t : Table). t.word2) (λ (t : Table). t.word3) table_or tables tables (λ a b. refl) (λ a b. refl))
    (λ a b. refl) (λ a b. refl)

-- under implication read backwards, with AND
wide_back : Joins Table (λ a b. table_implies b a) table_and
unfolding table_implies
wide_back =
    by_parts (λ (t : Table). t) (λ (t : Table). t) table_and
    (by_parts (λ (t : Table). t.word0) (λ (t : Table). t.word1) table_and tables_back tables_back (λ a b. refl) (λ a b. refl))
    (by_parts (λ (t : Table). t.word2) (λ (t : Table). t.word3) table_and tables_back tables_back (λ a b. refl) (λ a b. refl))
    (λ a b. refl) (λ a b. refl)

module _ (a b : Table) (h : T (table_implies a b)) where
  low : T (implies a.word0 b.word0 && implies a.word1 b.word1)
  unfolding table_implies
  low =
      T_left (implies a.word0 b.word0 && implies a.word1 b.word1)
      (implies a.word2 b.word2 && implies a.word3 b.word3) h

  high : T (implies a.word2 b.word2 && implies a.word3 b.word3)
  unfolding table_implies
  high =
      T_right (implies a.word0 b.word0 && implies a.word1 b.word1)
      (implies a.word2 b.word2 && implies a.word3 b.word3) h

  implies0 : T (implies a.word0 b.word0)
  implies0 = T_left (implies a.word0 b.word0) (implies a.word1 b.word1) low

  implies1 : T (implies a.word1 b.word1)
  implies1 = T_right (implies a.word0 b.word0) (implies a.word1 b.word1) low

  implies2 : T (implies a.word2 b.word2)
  implies2 = T_left (implies a.word2 b.word2) (implies a.word3 b.word3) high

  implies3 : T (implies a.word3 b.word3)
  implies3 = T_right (implies a.word2 b.word2) (implies a.word3 b.word3) high

wide_antisym : (a b : Table) → T (table_implies a b) → T (table_implies b a) → a ≡ b
wide_antisym a b p q =
    λ k. record {
      word0 = implies_antisym a.word0 b.word0 (implies0 a b p) (implies0 b a q) k;
      word1 = implies_antisym a.word1 b.word1 (implies1 a b p) (implies1 b a q) k;
      word2 = implies_antisym a.word2 b.word2 (implies2 a b p) (implies2 b a q) k;
      word3 = implies_antisym a.word3 b.word3 (implies3 a b p) (implies3 b a q) k;
    }

-- ── labels ──

-- a preorder, with join as least upper bound
pub labels : Joins Label flows join
unfolding join
labels =
    subst (λ (le : Label → Label → Bool). Joins Label le join) (λ k a b. sym (flows_halves a b) k)
    (by_parts (λ (l : Label). l.secrecy) (λ (l : Label). l.integrity) join wide_back wide (λ a b. refl) (λ a b. refl))

-- the same read backwards, with meet as greatest lower bound
pub labels_back : Joins Label (λ a b. flows b a) meet
unfolding meet
labels_back =
    subst (λ (le : Label → Label → Bool). Joins Label le meet) (λ k a b. sym (flows_halves b a) k)
    (by_parts (λ (l : Label). l.secrecy) (λ (l : Label). l.integrity) meet wide wide_back (λ a b. refl) (λ a b. refl))

pub flows_antisym : (a b : Label) → T (flows a b) → T (flows b a) → a ≡ b
flows_antisym a b p q =
    λ k. record {
      secrecy = wide_antisym a.secrecy b.secrecy (flows_secrecy b a q) (flows_secrecy a b p) k;
      integrity = wide_antisym a.integrity b.integrity (flows_integrity a b p) (flows_integrity b a q) k;
    }

-- a join flows to c if and only if both its parts do
pub join_flows : (a b c : Label) → T (flows (join a b) c) ↔ (T (flows a c) × T (flows b c))
join_flows = joins_below labels

-- c flows to a meet if and only if it flows to both its parts
pub flows_meet : (a b c : Label) → T (flows c (meet a b)) ↔ (T (flows c a) × T (flows c b))
flows_meet = joins_below labels_back
