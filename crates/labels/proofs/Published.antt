-- Labels as the published rules have them, with formulas and sets of principals in place of tables. Assumes nothing.
use mathlib.Core.Path.{◌≡◌, sym, ap, ap₂, ◌∙◌}
use mathlib.Core.List.{List}
use mathlib.Core.Logic.{◌↔◌}
use Prim.Native.Nat.{ℕ}
use lib.Dec.{T}
use borrow.Author.Tests.{eq-eqb, eqb-true}
use Rattle.formulas.specs.Formula.{Entails, conjunction, disjunction, table}
use Rattle.formulas.proofs.Formula.{table_conjunction, table_disjunction, table_lt}
use Rattle.formulas.proofs.Implication.{implies_entails}
use Rattle.formulas.proofs.Tests.{T_eq, T_true}
use Rattle.labels.specs.Tables.{principals, in_words, table_implies, table_and, table_or}
use Rattle.labels.specs.Order.{label, Formulated, Arising, Told, flow_test, flows, join, meet}
use Rattle.labels.specs.declared.Table.{Table}
use Rattle.labels.specs.declared.Label.{Label}
use Rattle.labels.proofs.Wide.{words_and, words_or, implies_words}
use Rattle.labels.proofs.Halves.{told}

-- ── tables ──

-- the words' implication is that of the formulas
words_entail : (cs ds : List ℕ) → T (table_implies (in_words (table principals cs)) (in_words (table principals ds))) ↔ Entails principals cs ds
words_entail cs ds =
    let e = implies_words (table principals cs) (table principals ds) (table_lt principals cs) (table_lt principals ds) in
    let f = implies_entails principals cs ds in
    (λ h. f.0 (T_eq e h), λ h. T_eq (sym e) (f.1 h))

pub words_conjunction : (cs ds : List ℕ) → table_and (in_words (table principals cs)) (in_words (table principals ds)) ≡ in_words (table principals (conjunction cs ds))
words_conjunction cs ds = sym (ap in_words (table_conjunction principals cs ds) ∙ words_and (table principals cs) (table principals ds))

words_disjunction : (cs ds : List ℕ) → table_or (in_words (table principals cs)) (in_words (table principals ds)) ≡ in_words (table principals (disjunction cs ds))
words_disjunction cs ds = sym (ap in_words (table_disjunction principals cs ds) ∙ words_or (table principals cs) (table principals ds))

-- ── labels ──

module _ (S I S' I' : List ℕ) where
  -- the flow test of ⟨S, I⟩ to ⟨S', I'⟩ tells whether it is S' implies S that fails, or I implies I', or both
  pub flow_test_published : Told (flow_test (label S I) (label S' I')) (Entails principals S' S) (Entails principals I I')
  unfolding flow_test
  flow_test_published =
      told
      (table_implies (in_words (table principals S')) (in_words (table principals S)))
      (table_implies (in_words (table principals I)) (in_words (table principals I')))
      (words_entail S' S) (words_entail I I')

  -- ⟨S, I⟩ flows to ⟨S', I'⟩ if and only if S' implies S and I implies I'
  pub flows_published : T (flows (label S I) (label S' I')) ↔ (Entails principals S' S × Entails principals I I')
  flows_published = (
    λ h. flow_test_published.none.0 (eqb-true (flow_test (label S I) (label S' I')) 0 (T_true (flows (label S I) (label S' I')) h)),
    λ h. T_eq (sym (eq-eqb (flow_test (label S I) (label S' I')) 0 (flow_test_published.none.1 h))) tt,
  )

  -- join is ⟨S and S', I or I'⟩
  pub join_published : join (label S I) (label S' I') ≡ label (conjunction S S') (disjunction I I')
  unfolding join
  join_published = λ k. record { secrecy = words_conjunction S S' k; integrity = words_disjunction I I' k }

  -- meet is ⟨S or S', I and I'⟩
  pub meet_published : meet (label S I) (label S' I') ≡ label (disjunction S S') (conjunction I I')
  unfolding meet
  meet_published = λ k. record { secrecy = words_disjunction S S' k; integrity = words_conjunction I I' k }

-- ── what join and meet make of labels with formulas has formulas again ──

and_formulated : (a b : Table) → Formulated a → Formulated b → Formulated (table_and a b)
and_formulated a b p q = (conjunction p.0 q.0, ap₂ table_and p.1 q.1 ∙ words_conjunction p.0 q.0)

or_formulated : (a b : Table) → Formulated a → Formulated b → Formulated (table_or a b)
or_formulated a b p q = (disjunction p.0 q.0, ap₂ table_or p.1 q.1 ∙ words_disjunction p.0 q.0)

pub join_arising : (a b : Label) → Arising a → Arising b → Arising (join a b)
unfolding join
join_arising a b p q =
    (and_formulated a.secrecy b.secrecy p.0 q.0, or_formulated a.integrity b.integrity p.1 q.1)

pub meet_arising : (a b : Label) → Arising a → Arising b → Arising (meet a b)
unfolding meet
meet_arising a b p q =
    (or_formulated a.secrecy b.secrecy p.0 q.0, and_formulated a.integrity b.integrity p.1 q.1)
