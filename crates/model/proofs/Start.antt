-- The two-run theorem from the start of a run: input records that differ only in hidden numbers.
use Rattle.std.specs.Prelude.{None, Some}
use mathlib.Core.Bool.{Bool, true, false}
use mathlib.Core.List.{List, [], ◌∷◌, ◌++◌}
use mathlib.Core.Logic.{◌≢◌}
use mathlib.Core.Path.{◌≡◌, refl, sym, ap, ap₂, ◌∙◌, subst}
use Prim.Native.Nat.{ℕ, zero, suc, ◌+◌, ◌-◌, ◌≤◌, ◌<◌}
use native.Mathlib.Omega.{arith}
use lib.ListN.{length, replicate, length-append, length-replicate}
use Rattle.labels.specs.declared.Label.{Label}
use Rattle.model.specs.State.{Store, Program, at, value, number, shown, Slot}
use Rattle.model.specs.Inputs.{Input, inputs, handles, record_of, input_slots}
use Rattle.model.specs.Running.{runs, start_control, start_account, start_store}
use Rattle.model.specs.declared.Kind.{Kind}
use Rattle.model.specs.declared.Datum.TheVariants.{Number, Handle}
use Rattle.model.specs.declared.Value.{Value}
use Rattle.model.specs.declared.Contents.TheVariants.{Value as Holds}
use Rattle.model.proofs.Places.{blank}
use Rattle.model.proofs.Kept.{LowSet, shell, Fresh, unseen}
use Rattle.model.proofs.Plans.{All}
use Rattle.model.proofs.LowEquivalence.{Twin, SharedSlot, LowEquivalent, LowOutcomes, shell_full, shared_visible}
use Rattle.model.proofs.TwoRuns.{two_runs}

-- ── the statement ──

-- input records of the same kinds and labels, and of the same numbers but under labels that are not in the set
abbrev pub AlikeInputs : (Label → Bool) → List Input → List Input → Type 0
AlikeInputs Low [] [] = Unit {0}
AlikeInputs Low [] (y ∷ ys) = ⊥
AlikeInputs Low (x ∷ xs) [] = ⊥
AlikeInputs Low (x ∷ xs) (y ∷ ys) =
    (x.kind ≡ y.kind) × (x.label ≡ y.label) × (Low x.label ≡ true → x.number ≡ y.number) × AlikeInputs Low xs ys

-- ── alike inputs give equivalent stores ──

alike_length : (Low : Label → Bool) (xs ys : List Input) → AlikeInputs Low xs ys → length xs ≡ length ys
alike_length Low [] [] h = refl
alike_length Low [] (y ∷ ys) h = absurd h
alike_length Low (x ∷ xs) [] h = absurd h
alike_length Low (x ∷ xs) (y ∷ ys) h = ap suc (alike_length Low xs ys h.3)

pub alike_handles : (Low : Label → Bool) (p : ℕ) (xs ys : List Input) → AlikeInputs Low xs ys → handles p xs ≡ handles p ys
unfolding handles
alike_handles Low p [] [] h = refl
alike_handles Low p [] (y ∷ ys) h = absurd h
alike_handles Low p (x ∷ xs) [] h = absurd h
alike_handles Low p (x ∷ xs) (y ∷ ys) h =
    ap₂ (λ (k : Kind) (r : List Value). value (Handle k p) ∷ r) h.0 (alike_handles Low (suc p) xs ys h.3)

pub length_inputs : (ls : ℕ → Label) (bs : List ℕ) (n i : ℕ) → length (inputs ls bs n i) ≡ n
unfolding inputs
length_inputs ls bs zero i = refl
length_inputs ls bs (suc n) i = ap suc (length_inputs ls bs n (i + 6))

pub length_slots : (xs : List Input) → length (input_slots xs) ≡ length xs
unfolding input_slots
length_slots [] = refl
length_slots (x ∷ xs) = ap suc (length_slots xs)

-- two inputs of one kind and label
one_shell : (x y : Input) → x.kind ≡ y.kind → x.label ≡ y.label → shell (Some (record_of x)) ≡ shell (Some (record_of y))
unfolding shell
one_shell x y k l = cc

one_visible : (Low : Label → Bool) (x y : Input) → x.kind ≡ y.kind → x.label ≡ y.label → (Low x.label ≡ true → x.number ≡ y.number)
    → shown Low (Some (record_of x)) ≡ shown Low (Some (record_of y))
one_visible Low x y k l n = test (Low x.label) refl
  where
    test : (t : Bool) → Low x.label ≡ t → shown Low (Some (record_of x)) ≡ shown Low (Some (record_of y))
    test true e = let m = n e in cc
    test false e = unseen Low x.kind x.label (Holds (Number x.number)) e
        ∙ sym (unseen Low y.kind y.label (Holds (Number y.number)) (ap Low (sym l) ∙ e))

-- the inputs of a store, and m empty places behind them
abbrev places : List Input → ℕ → Store
places xs m = input_slots xs ++ replicate m None

alike_places : (Low : Label → Bool) (m : ℕ) (xs ys : List Input) → AlikeInputs Low xs ys → (p : ℕ)
    → (shown Low (at (places xs m) p) ≡ shown Low (at (places ys m) p)) × (shell (at (places xs m) p) ≡ shell (at (places ys m) p))
unfolding input_slots
alike_places Low m [] [] h p = (refl, refl)
alike_places Low m [] (y ∷ ys) h p = absurd h
alike_places Low m (x ∷ xs) [] h p = absurd h
alike_places Low m (x ∷ xs) (y ∷ ys) h zero = (one_visible Low x y h.0 h.1 h.2, one_shell x y h.0 h.1)
alike_places Low m (x ∷ xs) (y ∷ ys) h (suc p) = alike_places Low m xs ys h.3 p

rest_empty : (xs : List Input) (m p : ℕ) → length xs ≤ p → at (places xs m) p ≡ None
unfolding input_slots
rest_empty [] m p h = blank m p None
rest_empty (x ∷ xs) m zero h = absurd (omega arith)
rest_empty (x ∷ xs) m (suc p) h = rest_empty xs m p (omega arith)

input_full : (xs : List Input) (m p : ℕ) → p < length xs → shell (at (places xs m) p) ≢ None
unfolding input_slots
input_full [] m p h = absurd (omega arith)
input_full (x ∷ xs) m zero h = shell_full x.kind x.label (Holds (Number x.number))
input_full (x ∷ xs) m (suc p) h = input_full xs m p (omega arith)

-- input records hold numbers
no_handles : (P : Program) (Low : Label → Bool) (σ τ : Store) (xs : List Input) (m p : ℕ) → SharedSlot σ τ (shown Low (at (places xs m) p))
unfolding input_slots shown
no_handles P Low σ τ [] m p = subst (λ (x : Slot). SharedSlot σ τ (shown Low x)) (sym (blank m p None)) tt
no_handles P Low σ τ (x ∷ xs) m zero = shared_visible P Low σ τ x.kind x.label (Holds (Number x.number)) tt
no_handles P Low σ τ (x ∷ xs) m (suc p) = no_handles P Low σ τ xs m p

handles_point : (T : ℕ → Type 0) (p : ℕ) (xs : List Input) → ((i : ℕ) → p ≤ i → i < p + length xs → T i) → All T (handles p xs)
unfolding handles
handles_point T p [] f = tt
handles_point T p (x ∷ xs) f = (f p (omega arith) (omega arith), handles_point T (suc p) xs (λ i a b. f i (omega arith) (omega arith)))

pub numbers_point : (T : ℕ → Type 0) (n : ℕ) → All T (replicate n (number 0))
numbers_point T zero = tt
numbers_point T (suc n) = (tt, numbers_point T n)

pub start_fresh : (xs : List Input) (l c : Label) (s n k : ℕ) → n ≡ length xs → k ≤ 256
    → Fresh (start_account l c s n k) (start_store (input_slots xs))
unfolding start_store
start_fresh xs l c s n k e h p i = (
  simp (length-append, length-replicate, length_slots) (omega arith),
  rest_empty xs (256 - length (input_slots xs)) p (omega (arith, i.0)),
)

module _ (P : Program) (Low : Label → Bool) (xs ys : List Input) (same : AlikeInputs Low xs ys) where
  pub start_equivalent : P.inputs ≡ handles 0 xs → LowEquivalent P Low (start_store (input_slots xs)) (start_store (input_slots ys))
  unfolding start_store
  start_equivalent ins =
      record {
        alike = λ p. (pair p).0;
        shared = λ p. no_handles P Low σ τ xs (256 - length (input_slots xs)) p;
        inputs = rw ins (handles_point (Twin σ τ) 0 xs (λ i _ b. (input_full xs (256 - length (input_slots xs)) i (omega arith), (pair i).1)));
        sized = simp (length-append, length-replicate, length_slots) (omega (arith, alike_length Low xs ys same));
      }
    where
      σ : Store
      σ = places xs (256 - length (input_slots xs))

      τ : Store
      τ = places ys (256 - length (input_slots ys))

      counts : length (input_slots ys) ≡ length (input_slots xs)
      counts = length_slots ys ∙ sym (alike_length Low xs ys same) ∙ sym (length_slots xs)

      pair : (p : ℕ) → (shown Low (at σ p) ≡ shown Low (at τ p)) × (shell (at σ p) ≡ shell (at τ p))
      pair p = rw counts (alike_places Low (256 - length (input_slots xs)) xs ys same p)

  -- Two runs from n input records that differ only in numbers under labels that are not in the set
  pub two_starts : LowSet P Low → P.inputs ≡ handles 0 xs → (l c : Label) (s n k : ℕ) → n ≡ length xs → k ≤ 256
      → LowOutcomes P Low (runs P start_control (start_account l c s n k) (start_store (input_slots xs)))
      (runs P start_control (start_account l c s n k) (start_store (input_slots ys)))
  two_starts D ins l c s n k e h =
      two_runs P Low D start_control (start_account l c s n k) (start_store (input_slots xs)) (start_store (input_slots ys))
      (start_fresh xs l c s n k e h) (start_fresh ys l c s n k (e ∙ alike_length Low xs ys same) h)
      (record { stack = tt; locals = numbers_point (Twin (start_store (input_slots xs)) (start_store (input_slots ys))) 16 }) (start_equivalent ins)
