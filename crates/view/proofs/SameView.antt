-- The view tells a reader nothing but what the two-run theorem keeps the same.
use Rattle.std.specs.Prelude.{None, Some}
use mathlib.Core.Bool.{Bool, true, false, true≢false}
use mathlib.Core.List.{List, [], ◌∷◌, ◌++◌}
use mathlib.Core.Path.{◌≡◌, refl, sym, ap, ap₂, ◌∙◌}
use Prim.Native.Nat.{ℕ, suc, ◌+◌}
use native.Mathlib.Omega.{arith}
use lib.ListN.{length}
use Rattle.labels.specs.Tables.{principals}
use Rattle.labels.specs.declared.Label.{Label}
use Rattle.model.specs.State.{Store, Program, Outcome, at, shown, Slot}
use Rattle.model.specs.declared.Account.{Account}
use Rattle.model.specs.declared.Ending.{Ending}
use Rattle.model.proofs.LowEquivalence.{Ends, together, apart, LowOutcomes}
use Rattle.view.specs.Layout.{slot_field, record_fields, one, records_shown, counts, final, view, length_over, view_over}

-- the records of two stores of one length in which each place is shown alike
module _ (Reads : Label → Bool) where
  fields_alike : (p : ℕ) (σ τ : Store) → length σ ≡ length τ → ((q : ℕ) → shown Reads (at σ q) ≡ shown Reads (at τ q))
      → record_fields principals Reads p σ ≡ record_fields principals Reads p τ
  unfolding record_fields
  fields_alike p [] [] e h = refl
  fields_alike p [] (y ∷ τ) e h = absurd (omega arith)
  fields_alike p (x ∷ σ) [] e h = absurd (omega arith)
  fields_alike p (x ∷ σ) (y ∷ τ) e h =
      ap₂ (λ (z : Slot) (r : List ℕ). slot_field principals p z ++ r) (h 0)
      (fields_alike (suc p) σ τ (omega arith) (λ q. h (suc q)))

  shown_alike : (σ τ : Store) → length σ ≡ length τ → ((q : ℕ) → shown Reads (at σ q) ≡ shown Reads (at τ q))
      → records_shown Reads σ ≡ records_shown Reads τ
  unfolding records_shown
  shown_alike [] [] e h = refl
  shown_alike [] (y ∷ τ) e h = absurd (omega arith)
  shown_alike (x ∷ σ) [] e h = absurd (omega arith)
  shown_alike (x ∷ σ) (y ∷ τ) e h = ap₂ (λ (z : Slot) (n : ℕ). one z + n) (h 0) (shown_alike σ τ (omega arith) (λ q. h (suc q)))

module _ (Reads Low : Label → Bool) (within : (l : Label) → Reads l ≡ true → Low l ≡ true) where
  -- what is shown to a reader of some labels in the set is a part of what an observer of the set is shown
  shown_twice : (x : Slot) → shown Reads x ≡ shown Reads (shown Low x)
  unfolding shown
  shown_twice None = refl
  shown_twice (Some x) = tests (Reads x.label) (Low x.label) refl refl
    where
      tests : (r s : Bool) → Reads x.label ≡ r → Low x.label ≡ s → shown Reads (Some x) ≡ shown Reads (shown Low (Some x))
      tests r true e f = rw f
      tests true false e f = absurd (true≢false (sym (within x.label e) ∙ f))
      tests false false e f = rw (e, f)

  unread : (l : Label) → Low l ≡ false → Reads l ≡ false
  unread l e = test (Reads l) refl
    where
      test : (t : Bool) → Reads l ≡ t → Reads l ≡ false
      test true f = absurd (true≢false (sym (within l f) ∙ e))
      test false f = f

  -- ending, steps used, next place; result, label and clearance
  ends_alike : (s : ℕ) (σ τ : Store) (e f : Ending) (a b : Account) → Ends Low σ τ e a f b
      → (counts Reads s e a ≡ counts Reads s f b) × (final principals Reads e a ≡ final principals Reads f b)
  unfolding counts final
  ends_alike s σ τ e f a b (together o) = (refl, refl)
  ends_alike s σ τ e f a b (apart u v) = (rw (unread a.label u, unread b.label v), rw (unread a.label u, unread b.label v))

  -- Outcomes that an observer of the set can't tell apart give one view to each reader of labels in the set.
  pub same_view : (P : Program) (s : ℕ) (o q : Outcome) → LowOutcomes P Low o q → view Reads s o ≡ view Reads s q
  unfolding view_over length_over
  same_view P s o q m =
      let ends = ends_alike s o.store q.store o.ending q.ending o.account q.account m.ends in
      cc (
        ends.0,
        ends.1,
        fields_alike Reads 0 o.store q.store m.stores.sized each,
        shown_alike Reads o.store q.store m.stores.sized each,
      )
    where
      each : (p : ℕ) → shown Reads (at o.store p) ≡ shown Reads (at q.store p)
      each p = shown_twice (at o.store p) ∙ ap (shown Reads) (m.stores.alike p) ∙ sym (shown_twice (at q.store p))
