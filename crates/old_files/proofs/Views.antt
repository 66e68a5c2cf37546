-- A view is its contents laid out; and an outcome under a map of labels has the contents under that map.
use Rattle.std.specs.Prelude.{None, Some}
use mathlib.Core.Bool.{Bool}
use mathlib.Core.List.{List, [], ◌∷◌, ◌++◌, map}
use mathlib.Core.Path.{◌≡◌, refl, sym, ap, ap₂, ◌∙◌}
use Prim.Native.Nat.{ℕ, suc, ◌+◌}
use native.Mathlib.Omega.{arith}
use lib.ListN.{length}
use Rattle.labels.specs.declared.Label.{Label}
use Rattle.model.specs.State.{Store, Outcome, shown, Slot}
use Rattle.model.specs.declared.Datum.{Datum}
use Rattle.model.specs.declared.Datum.TheVariants.{Number, Label as Labelled, Handle}
use Rattle.model.specs.declared.Contents.TheVariants.{Value as Holds, Fault}
use Rattle.model.specs.declared.Contents as held
use Rattle.model.specs.declared.Record.{Record}
use Rattle.model.specs.declared.Ending.{Ending}
use Rattle.model.specs.declared.Ending.TheVariants.{Result, Fault as Faulted, Spent}
use Rattle.relabelling.specs.Relabelled.{datum_under, contents_under as heldUnder, record_under, slot_under, store_under, ending_under, outcome_under}
use Rattle.relabelling.proofs.Starts.{shown_under}
use Rattle.view.specs.Layout.{slot_field, record_fields, one, records_shown, counts, final, length_over, view_over}
use Rattle.old_files.specs.Contents.{Placed, Contents, placed_if, records_seen, contents_of, placed_fields, layout, placed_under, contents_under}

-- ── the contents, laid out ──

module _ (n : ℕ) (Reads : Label → Bool) where
  one_field : (p : ℕ) (x : Slot) (rs : List Placed) → placed_fields n (placed_if p x rs) ≡ slot_field n p x ++ placed_fields n rs
  unfolding placed_fields slot_field
  one_field p None rs = refl
  one_field p (Some r) rs = refl

  fields_laid : (p : ℕ) (σ : Store) → record_fields n Reads p σ ≡ placed_fields n (records_seen Reads p σ)
  unfolding record_fields records_seen placed_fields
  fields_laid p [] = refl
  fields_laid p (x ∷ σ) =
      ap (λ (bs : List ℕ). slot_field n p (shown Reads x) ++ bs) (fields_laid (suc p) σ) ∙ sym (one_field p (shown Reads x) (records_seen Reads (suc p) σ))

counted : (Reads : Label → Bool) (p : ℕ) (σ : Store) → records_shown Reads σ ≡ length (records_seen Reads p σ)
unfolding records_shown records_seen
counted Reads p [] = refl
counted Reads p (x ∷ σ) = ap (λ (k : ℕ). one (shown Reads x) + k) (counted Reads (suc p) σ) ∙ more (shown Reads x) (records_seen Reads (suc p) σ)
  where
    more : (y : Slot) (rs : List Placed) → one y + length rs ≡ length (placed_if p y rs)
    more None rs = omega arith
    more (Some r) rs = omega arith

pub view_laid_out : (n : ℕ) (Reads : Label → Bool) (s : ℕ) (o : Outcome) → view_over n Reads s o ≡ layout n (contents_of Reads s o)
unfolding view_over length_over counts final layout
view_laid_out n Reads s o = rw (counted Reads 0 o.store, fields_laid n Reads 0 o.store)

-- ── under a map ──

module _ (h : Label → Label) (Sees Seen : Label → Bool) (e : (l : Label) → Seen (h l) ≡ Sees l) where
  records_under : (p : ℕ) (σ : Store) → records_seen Seen p (store_under h σ) ≡ map (placed_under h) (records_seen Sees p σ)
  unfolding records_seen
  records_under p [] = refl
  records_under p (x ∷ σ) =
      ap₂ (placed_if p) (shown_under h Sees Seen e x) (records_under (suc p) σ) ∙ each (shown Sees x) (records_seen Sees (suc p) σ)
    where
      each : (y : Slot) (rs : List Placed) → placed_if p (slot_under h y) (map (placed_under h) rs) ≡ map (placed_under h) (placed_if p y rs)
      each None rs = refl
      each (Some r) rs = refl

  pub contents-under : (s : ℕ) (o : Outcome) → contents_of Seen s (outcome_under h o) ≡ contents_under h (contents_of Sees s o)
  contents-under s o =
      ap₂ (λ (t : Bool) (rs : List Placed). record { seen = t; steps = s; ending = ending_under h o.ending; account = (contents_under h (contents_of Sees s o)).account; records = rs })
      (e o.account.label) (records_under 0 o.store)

-- ── under two maps, one behind the other ──

module _ (g h : Label → Label) where
  datum_twice : (d : Datum) → datum_under h (datum_under g d) ≡ datum_under (λ l. h (g l)) d
  datum_twice (Number n) = refl
  datum_twice (Labelled l) = refl
  datum_twice (Handle k p) = refl

  held_twice : (c : held.Contents) → heldUnder h (heldUnder g c) ≡ heldUnder (λ l. h (g l)) c
  held_twice (Holds d) = ap Holds (datum_twice d)
  held_twice (Fault code n) = refl

  record_twice : (r : Record) → record_under h (record_under g r) ≡ record_under (λ l. h (g l)) r
  record_twice r = ap (λ (c : held.Contents). record { kind = r.kind; label = h (g r.label); contents = c }) (held_twice r.contents)

  slot_twice : (x : Slot) → slot_under h (slot_under g x) ≡ slot_under (λ l. h (g l)) x
  slot_twice None = refl
  slot_twice (Some r) = ap Some (record_twice r)

  store_twice : (σ : Store) → store_under h (store_under g σ) ≡ store_under (λ l. h (g l)) σ
  store_twice [] = refl
  store_twice (x ∷ σ) = ap₂ (λ (y : Slot) (τ : Store). y ∷ τ) (slot_twice x) (store_twice σ)

  ending_twice : (x : Ending) → ending_under h (ending_under g x) ≡ ending_under (λ l. h (g l)) x
  ending_twice (Result d) = ap Result (datum_twice d)
  ending_twice (Faulted code n) = refl
  ending_twice Spent = refl

  pub outcome_twice : (o : Outcome) → outcome_under h (outcome_under g o) ≡ outcome_under (λ l. h (g l)) o
  outcome_twice o =
      ap₂ (λ (x : Ending) (σ : Store). record { ending = x; account = (outcome_under (λ l. h (g l)) o).account; store = σ })
      (ending_twice o.ending) (store_twice o.store)

  placed_twice : (rs : List Placed) → map (placed_under h) (map (placed_under g) rs) ≡ map (placed_under (λ l. h (g l))) rs
  placed_twice [] = refl
  placed_twice (r ∷ rs) = ap₂ (λ (x : Record) (xs : List Placed). record { place = r.place; holds = x } ∷ xs) (record_twice r.holds) (placed_twice rs)

  pub contents_twice : (c : Contents) → contents_under h (contents_under g c) ≡ contents_under (λ l. h (g l)) c
  contents_twice c =
      ap₂ (λ (x : Ending) (rs : List Placed). record { seen = c.seen; steps = c.steps; ending = x; account = (contents_under (λ l. h (g l)) c).account; records = rs })
      (ending_twice c.ending) (placed_twice c.records)
