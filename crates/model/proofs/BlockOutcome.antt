-- The outcome of a block: what an observer sees of it, where the two bodies ended as the two-run theorem says.
use mathlib.Core.Bool.{Bool, true, false, true≢false}
use mathlib.Core.Path.{◌≡◌, refl, sym, ap, ◌∙◌, subst}
use Rattle.labels.specs.declared.Label.{Label}
use Rattle.model.specs.State.{Store, Program, flows_in, Outcome, shown}
use Rattle.model.specs.declared.Account.{Account}
use Rattle.model.specs.Effects.{holding, contents_of, outcome}
use Rattle.model.specs.declared.Kind.TheVariants.{Sealed}
use Rattle.model.specs.declared.Contents.{Contents}
use Rattle.model.specs.declared.Contents.TheVariants.{Fault}
use Rattle.model.specs.declared.Ending.{Ending}
use Rattle.model.specs.declared.Ending.TheVariants.{Result, Fault as Faulted, Spent}
use Rattle.model.proofs.Tests.{cond_one}
use Rattle.model.proofs.Kept.{LowSet, unseen}
use Rattle.model.proofs.LowEquivalence.{SharedContents, SharedSlot, SharedEnding, Ends, together, apart, shared_visible}

module _ (P : Program) (Low : Label → Bool) (D : LowSet P Low) where
  -- a label that is not in the set doesn't flow to a bound in the set
  no_flow : (l b : Label) → Low l ≡ false → Low b ≡ true → flows_in P l b ≡ false
  no_flow l b u e = test (flows_in P l b) refl
    where
      test : (t : Bool) → flows_in P l b ≡ t → flows_in P l b ≡ false
      test true f = absurd (true≢false (sym (D.down l b f e) ∙ u))
      test false f = f

  above : (b : Label) (o : Outcome) → Low o.account.label ≡ false → Low b ≡ true → outcome P b o ≡ Fault 31 0
  unfolding outcome
  above b o u e = rw (no_flow o.account.label b u e)

  shared_ending : (σ τ : Store) (e : Ending) → SharedEnding σ τ e → SharedContents σ τ (contents_of e)
  unfolding contents_of
  shared_ending σ τ (Result d) o = o
  shared_ending σ τ (Faulted code n) o = tt
  shared_ending σ τ Spent o = tt

  -- Under a bound that the observer sees, bodies that ended apart give fault 31, both; under any other no outcome is seen.
  pub outcome_visible : (b : Label) (σ τ : Store) (e f : Ending) (a c : Account) → Ends Low σ τ e a f c
      → (shown Low (holding Sealed b (outcome P b (record { ending = e; account = a; store = σ })))
      ≡ shown Low (holding Sealed b (outcome P b (record { ending = f; account = c; store = τ }))))
      × SharedSlot σ τ (shown Low (holding Sealed b (outcome P b (record { ending = e; account = a; store = σ }))))
  unfolding outcome
  outcome_visible b σ τ e f a c (together h) =
      (refl, shared_visible P Low σ τ Sealed b _ (cond_one (SharedContents σ τ) (flows_in P a.label b) (λ _. shared_ending σ τ e h) (λ _. tt)))
  outcome_visible b σ τ e f a c (apart u v) = bound (Low b) refl
    where
      o : Outcome
      o = record { ending = e; account = a; store = σ }

      q : Outcome
      q = record { ending = f; account = c; store = τ }

      bound : (t : Bool) → Low b ≡ t → (shown Low (holding Sealed b (outcome P b o)) ≡ shown Low (holding Sealed b (outcome P b q)))
          × SharedSlot σ τ (shown Low (holding Sealed b (outcome P b o)))
      bound true e = (
        ap (λ (x : Contents). shown Low (holding Sealed b x)) (above b o u e ∙ sym (above b q v e)),
        shared_visible P Low σ τ Sealed b (outcome P b o) (subst (SharedContents σ τ) (sym (above b o u e)) tt),
      )
      bound false e = (
        unseen Low Sealed b (outcome P b o) e ∙ sym (unseen Low Sealed b (outcome P b q) e),
        subst (SharedSlot σ τ) (sym (unseen Low Sealed b (outcome P b o) e)) tt,
      )
