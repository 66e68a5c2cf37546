-- The slots of which the reader is shown something are counted.
use Rattle.std.proofs.Common.{◌≡◌, rules, tests, ◌∙◌, refl, ap, cond, Bool, [], ◌∷◌, ℕ, ◌+◌, length, None, Some, arith}
use Rattle.std.specs.Prelude.{is_some}
use Rattle.std.specs.List.{filter}
use Rattle.std.proofs.lemmas.Iterator.{YieldsList-from_slice}
use Rattle.std.proofs.lemmas.Iterator.Consumers.{count_from_yields_List, YieldsList-from_filter}
use Rattle.labels.specs.declared.Label.{Label}
use Rattle.model.specs.State.{Slot, Store, shown}
use Rattle.view.specs.Layout.{one, records_shown}
use Rattle.view.specs.Writing.{observes}
use Rattle.view.proofs.records_shown.Goals as goal

one_more : (x y : Slot) (σ : Store) → length (cond (is_some x) (y ∷ σ) σ) ≡ one x + length σ
one_more None y σ = omega arith
one_more (Some r) y σ = omega arith

counted : (Reads : Label → Bool) (σ : Store) → length (filter (λ x. is_some (shown Reads x)) σ) ≡ records_shown Reads σ
unfolding records_shown
counted Reads [] = refl
counted Reads (x ∷ σ) =
    one_more (shown Reads x) x (filter (λ y. is_some (shown Reads y)) σ)
    ∙ ap (λ (n : ℕ). one (shown Reads x) + n) (counted Reads σ)

pub returns : goal.returns
returns c =
    count_from_yields_List _ _ c.count.ensures.ran
    (YieldsList-from_filter _ (λ x. is_some (shown (observes c.args.reader) x)) (YieldsList-from_slice c.args.store.now cc)
    c.filter.ensures.closure (λ x r q k. search (rules, tests)))
    ∙ counted (observes c.args.reader) c.args.store.now
