-- From a file's input records on: what a run starts with under mapped labels, and the theorem for such a run.
use Rattle.std.specs.Prelude.{None, Some}
use mathlib.Core.Bool.{Bool}
use mathlib.Core.List.{List, [], ◌∷◌, map, map-append}
use mathlib.Core.Path.{◌≡◌, refl, ap}
use Prim.Native.Nat.{ℕ, zero, suc, ◌+◌, ◌-◌}
use lib.ListN.{length, replicate, length-map}
use Rattle.labels.specs.Order.{flow_test, join, meet}
use Rattle.labels.specs.declared.Label.{Label}
use Rattle.model.specs.State.{Store, value, shown, Slot}
use Rattle.model.specs.Inputs.{Input, input_from, inputs, handles, record_of, input_slots}
use Rattle.model.specs.Running.{runs, program_of, start_control, start_account, start_store}
use Rattle.model.specs.declared.Datum.TheVariants.{Handle}
use Rattle.model.specs.declared.Value.{Value}
use Rattle.relabelling.specs.Relabelled.{value_under, slot_under, store_under, outcome_under, input_under}
use Rattle.relabelling.specs.Keeps.{Order, KeepsOrder, Keeps, program_in}
use Rattle.relabelling.proofs.Lists.{cond_under, map_replicate}
use Rattle.relabelling.proofs.Runs.{runs_under}

module _ (h : Label → Label) where
  -- ── input records ──

  -- those of a file, under its labels
  pub inputs_under : (ls : ℕ → Label) (bs : List ℕ) (n i : ℕ) → inputs (λ j. h (ls j)) bs n i ≡ map (input_under h) (inputs ls bs n i)
  unfolding inputs
  inputs_under ls bs zero i = refl
  inputs_under ls bs (suc n) i = ap (λ (xs : List Input). input_under h (input_from ls bs i) ∷ xs) (inputs_under ls bs n (i + 6))

  -- a handle holds no label: INPUT pushes the same
  pub handles_same : (p : ℕ) (xs : List Input) → handles p (map (input_under h) xs) ≡ handles p xs
  unfolding handles
  handles_same p [] = refl
  handles_same p (x ∷ xs) = ap (λ (s : List Value). value (Handle x.kind p) ∷ s) (handles_same (suc p) xs)

  pub handles_under : (p : ℕ) (xs : List Input) → handles p (map (input_under h) xs) ≡ map (value_under h) (handles p xs)
  unfolding handles
  handles_under p [] = refl
  handles_under p (x ∷ xs) = ap (λ (s : List Value). value (Handle x.kind p) ∷ s) (handles_under (suc p) xs)

  -- ── the store ──

  pub slots_under : (xs : List Input) → input_slots (map (input_under h) xs) ≡ store_under h (input_slots xs)
  unfolding input_slots
  slots_under [] = refl
  slots_under (x ∷ xs) = ap (λ (σ : Store). slot_under h (Some (record_of x)) ∷ σ) (slots_under xs)

  -- the empty places stay empty
  pub store-under : (σ : Store) → start_store (store_under h σ) ≡ store_under h (start_store σ)
  unfolding start_store
  store-under σ =
      let n = 256 - length σ in
      rw (length-map σ (slot_under h), map-append (slot_under h) σ (replicate n None), ← map_replicate (slot_under h) n None)

  -- an observer who sees h l if and only if another sees l is shown the same places
  pub shown_under : (Sees Seen : Label → Bool) → ((l : Label) → Seen (h l) ≡ Sees l) → (x : Slot)
      → shown Seen (slot_under h x) ≡ slot_under h (shown Sees x)
  unfolding shown
  shown_under Sees Seen e None = refl
  shown_under Sees Seen e (Some r) = rw (e r.label) (cond_under (slot_under h) (Sees r.label) refl refl)

  -- ── a run from its start ──

  -- a file's program has the order of labels
  pub program-of : (code : List ℕ) (ls : ℕ → Label) (xs : List Input)
      → program_in (record { flow_test = flow_test; join = join; meet = meet }) code ls xs ≡ program_of code ls xs
  program-of code ls xs = refl

  module _ (o q : Order) (K : KeepsOrder h o q) (code : List ℕ) (ls : ℕ → Label) (xs : List Input) where
    pub program_under : Keeps h (program_in o code ls xs) (program_in q code (λ i. h (ls i)) (map (input_under h) xs))
    program_under =
        record {
          order = K;
          same_fetch = λ pc. refl;
          same_after = λ pc. refl;
          mapped_labels = λ i. refl;
          mapped_inputs = handles_under 0 xs;
        }

    -- of label l and clearance m, s steps, n records and k places
    pub start_under : (l m : Label) (s n k : ℕ)
        → runs (program_in q code (λ i. h (ls i)) (map (input_under h) xs)) start_control (start_account (h l) (h m) s n k)
        (start_store (input_slots (map (input_under h) xs)))
        ≡ outcome_under h (runs (program_in o code ls xs) start_control (start_account l m s n k) (start_store (input_slots xs)))
    start_under l m s n k =
        rw (slots_under xs, store-under (input_slots xs))
        (runs_under h (program_in o code ls xs) (program_in q code (λ i. h (ls i)) (map (input_under h) xs)) program_under start_control
        (start_account l m s n k) (start_store (input_slots xs)))
