-- Labels: their order, join and meet, on tables. Assumes nothing.
use Rattle.std.specs.Prelude.{Bool, cond, List, ◌↔◌, ◌≡◌, ℕ, ◌+◌, eqb}
use Rattle.formulas.specs.Formula.{table}
use Rattle.labels.specs.Tables.{principals, in_words, lowest, table_implies, table_and, table_or}
use Rattle.labels.specs.declared.Table.{Table}
use Rattle.labels.specs.declared.Label.{Label}

-- Labels: "A label ⟨S, I⟩ is a secrecy and an integrity formula." Over n principals, and over those that there are.
abbrev pub label_over : ℕ → List ℕ → List ℕ → Label
label_over n S I = record { secrecy = in_words (table n S); integrity = in_words (table n I) }

abbrev pub label : List ℕ → List ℕ → Label
label = label_over principals

-- what stands where there is no label: ⟨False, False⟩
abbrev pub no_label : Label
no_label = record { secrecy = lowest 0; integrity = lowest 0 }

-- Labels: "⟨S, I⟩ flows to ⟨S', I'⟩ if and only if S' implies S and I implies I'."
-- T-02: "The flow test now tells which half failed": 1 for secrecy, 2 for integrity, 3 for both, and 0 for none.
unfoldable pub flow_test : Label → Label → ℕ
flow_test a b =
    cond (table_implies b.secrecy a.secrecy) 0 1 + cond (table_implies a.integrity b.integrity) 0 2

-- an answer n tells which of two implications, secrecy's P and integrity's Q, fails
pub record Told (n : ℕ) (P Q : Type 0) : Type 0 where
  pub none : (n ≡ 0) ↔ (P × Q)
  pub secrecy : (n ≡ 1) ↔ ((P → ⊥) × Q)
  pub integrity : (n ≡ 2) ↔ (P × (Q → ⊥))
  pub both : (n ≡ 3) ↔ ((P → ⊥) × (Q → ⊥))

-- by a flow test, one label flows to another where it answers 0
abbrev pub flows_by : (Label → Label → ℕ) → Label → Label → Bool
flows_by test a b = eqb (test a b) 0

abbrev pub flows : Label → Label → Bool
flows = flows_by flow_test

-- Labels: "Join is ⟨S and S', I or I'⟩."
unfoldable pub join : Label → Label → Label
join a b = record { secrecy = table_and a.secrecy b.secrecy; integrity = table_or a.integrity b.integrity }

-- Labels: "Meet is ⟨S or S', I and I'⟩."
unfoldable pub meet : Label → Label → Label
meet a b = record { secrecy = table_or a.secrecy b.secrecy; integrity = table_and a.integrity b.integrity }

-- the table is that of a formula
abbrev pub Formulated : Table → Type 0
Formulated t = (cs : List ℕ) × (t ≡ in_words (table principals cs))

-- both tables of the label are those of formulas
abbrev pub Arising : Label → Type 0
Arising l = Formulated l.secrecy × Formulated l.integrity
