-- Every table that can arise, from clauses or from AND and OR of such tables, has exactly one canonical list of clauses.
-- Assumes nothing.
use mathlib.Core.Path.{sym, ap, ap₂, ◌∙◌, subst}
use Prim.Native.Nat.{ℕ, ◌≤◌}
use lib.Bits.{bit_and, bit_or}
use lib.Dec.{T}
use lib.ListN.{length}
use Rattle.formulas.specs.Formula.{Arises, conjunction, disjunction, table}
use Rattle.formulas.specs.Normal.{canonical, clauses, Normal}
use Rattle.formulas.proofs.Clauses.{clauses_table}
use Rattle.formulas.proofs.Count.{at_most_70}
use Rattle.formulas.proofs.Existence.{table_clauses, canonical_clauses}
use Rattle.formulas.proofs.Formula.{table_conjunction, table_disjunction}

-- ---- the tables that can arise

pub arises_and : (n a b : ℕ) → Arises n a → Arises n b → Arises n (bit_and a b)
arises_and n a b p q = (conjunction p.0 q.0, ap₂ bit_and p.1 q.1 ∙ sym (table_conjunction n p.0 q.0))

pub arises_or : (n a b : ℕ) → Arises n a → Arises n b → Arises n (bit_or a b)
arises_or n a b p q = (disjunction p.0 q.0, ap₂ bit_or p.1 q.1 ∙ sym (table_disjunction n p.0 q.0))

-- ---- their one list

pub normal : (n t : ℕ) → Arises n t → Normal n t
normal n t w =
    record {
      form = subst (λ (x : ℕ). T (canonical n (clauses n x))) (sym w.1) (canonical_clauses n w.0);
      same = ap (λ (x : ℕ). table n (clauses n x)) w.1 ∙ table_clauses n w.0 ∙ sym w.1;
      only = λ cs c e. sym (clauses_table n cs c) ∙ ap (clauses n) e;
    }

pub normal_and : (n a b : ℕ) → Arises n a → Arises n b → Normal n (bit_and a b)
normal_and n a b p q = normal n (bit_and a b) (arises_and n a b p q)

pub normal_or : (n a b : ℕ) → Arises n a → Arises n b → Normal n (bit_or a b)
normal_or n a b p q = normal n (bit_or a b) (arises_or n a b p q)

-- it is short
pub at_most_70_clauses : (t : ℕ) → Arises 8 t → length (clauses 8 t) ≤ 70
at_most_70_clauses t w = at_most_70 (clauses 8 t) (normal 8 t w).form
